use Rattle.std.proofs.Common.{◌≡◌, ◌<◌, ◌-◌, false, length}
use Rattle.lsp_frame.specs.Frames.{cut_of}
use Rattle.lsp_frame.specs.declared.frame.Cut.TheVariants.{NeedMore}
use Rattle.inline_host.specs.Framed.{waiting}
use Rattle.inline_host.proofs.framed_source.FramedSource.read_on.Given as goal

abbrev pub invariant-reading : goal.invariant-reading
invariant-reading g l = record {
  usable : l.self.poisoned ≡ false;
  needs : cut_of l.self.held ≡ NeedMore;
  some : 0 < l.lacking;
  waiting : waiting l.self ≡ waiting l.fn.self;
  faults : l.self.faults ≡ l.fn.self.faults;
}

-- what needs more bytes is never longer than a frame can be
abbrev pub decreases-reading : goal.decreases-reading
decreases-reading g l = 67112960 - length l.self.held
