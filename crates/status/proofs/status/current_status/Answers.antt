use Rattle.status.proofs.status.current_status.Goals as goal

pub returns : goal.returns
returns c = rw (c.as_slice.ensures, c.as_slice-2.ensures) at c.status_with.ensures
