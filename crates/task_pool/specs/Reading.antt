-- What is known of a reader that was started.
use Rattle.std.specs.Prelude.{◌≡◌, true}
use Rattle.std.specs.Arc.{arc_value}
use Rattle.std.specs.declared.alloc.Global.{Global}
use Rattle.crossbeam_queue.specs.SegTies.{SegId}
use Rattle.inbox.specs.Counts.{counted}
use Rattle.inbox.specs.Posting.{bytes_of}
use Rattle.inbox.specs.Readers.{HasEnded}
use Rattle.inbox.specs.declared.reader.ReadOut.{ReadOut}
use Rattle.task_pool.specs.declared.reading.Reader.{Reader}
use Rattle.task_pool.specs.declared.reading.Reader.TheVariants.{Running, Ended}

-- it gives back its end of this inbox, the count of the bytes that it posted, and whether it posted the source's end
pub record HasRead (queue : SegId Global) (out : ReadOut) : Type 0 where
  pub inbox : (arc_value out.end.inbox).queue ≡ queue
  pub counts : out.posted ≡ counted (bytes_of out.end.pass.me.view.client.posted)
  pub ended : out.ended ≡ true → HasEnded out.end.pass.me.view.client.posted

abbrev pub IsReader : SegId Global → Reader → Type 0
IsReader queue (Running handle) = (arc_value handle.promise.inbox.value).queue ≡ queue
IsReader queue (Ended out) = HasRead queue out
