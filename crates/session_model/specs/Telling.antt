-- Work that has begun, goes on or has ended, as the client is told of it.
use Rattle.std.specs.Prelude.{ℕ, List, Option, None}
use Rattle.notify.specs.declared.progress.Progress.TheVariants.{Begin, Report, End}
use Rattle.client.specs.declared.work.WorkProgress.{WorkProgress}

abbrev pub begun_work : List ℕ → Option (List ℕ) → Option (List ℕ) → Option ℕ → WorkProgress
begun_work title token message percentage = record {
  title = title;
  state = Begin;
  message = message;
  percentage = percentage;
  cancel_token = token;
}

abbrev pub reported_work : List ℕ → Option (List ℕ) → Option (List ℕ) → Option ℕ → WorkProgress
reported_work title token message percentage = record {
  title = title;
  state = Report;
  message = message;
  percentage = percentage;
  cancel_token = token;
}

abbrev pub ended_work : List ℕ → Option (List ℕ) → Option (List ℕ) → WorkProgress
ended_work title token message = record {
  title = title;
  state = End;
  message = message;
  percentage = None;
  cancel_token = token;
}
