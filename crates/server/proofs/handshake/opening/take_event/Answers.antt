use Rattle.std.proofs.Common.{◌≡◌, arith, refl, inl, ◌∙◌, [], ◌∷◌, ◌<◌, ◌+◌, ◌-◌, ◌^◌}
use Rattle.std.proofs.lemmas.Grind.{common_steps}
use Rattle.session_port.specs.Record.{after_event}
use Rattle.session_port.specs.declared.fault.Counter.TheVariants.{Turns}
use Rattle.session_laws.specs.SessionError.TheVariants.{Exhausted}
use Rattle.session_port.specs.declared.event.HostEvent.TheVariants.{Bytes, Tasks, Ended, Vfs, DeferredTask, Timer}
use Rattle.session_port.specs.declared.event.HostEvent.TheVariants.{Flycheck, TestResult, DiscoverProject}
use Rattle.session_laws.specs.News.TheVariants as news
use Rattle.session_laws.proofs.Courses.{course-event, course-waits}
use Rattle.server.proofs.Folds.{telling-events, telling-same}
use Rattle.server.proofs.Idle.{batch-none}
use Rattle.server.proofs.Stretches.{advances-feed, breaks-here, goes-deferred, goes-loader, goes-news, goes-tasks, goes-timer}
use Rattle.server.proofs.handshake.opening.take_event.Goals as goal

pub returns-then-talk-clause-event : goal.returns-then-talk-clause-event
returns-then-talk-clause-event g c =
    let left : c.args.talk.now.events + 0 ≡ 2 ^ 64 - 1 = omega arith in
    λ setup turns. breaks-here setup c.args.talk.now _ (Exhausted Turns) (inl (refl, left, course-waits _ _ c.requires.waits))

pub returns-in-Err-Failed-clause-event : goal.returns-in-Err-Failed-clause-event
returns-in-Err-Failed-clause-event g c = λ setup turns. inl (record {
  events = [];
  asked = tt;
  told = telling-same _ _ c.in-Err-Failed.ensures.calls refl;
  left = course-waits _ _ c.requires.waits;
})

pub returns-in-Ended-clause-event : goal.returns-in-Ended-clause-event
returns-in-Ended-clause-event g c =
    let h = c.in-Ok.ensures in
    λ setup turns. inl (record {
      events = Ended ∷ [];
      asked = course-waits _ _ c.requires.waits;
      told = telling-events (Ended ∷ []) _ _ (grind (arith, common_steps, h)) refl;
      left = course-event _ _ Ended [] c.requires.waits;
    })

pub returns-in-Tasks-clause-idle : goal.returns-in-Tasks-clause-idle
returns-in-Tasks-clause-idle g c = c.in-Ok.ensures.out ∙ (λ i. after_event (c.in-Tasks.is i) (c.requires.idle i)) ∙ batch-none c.in-Tasks.field-0

pub returns-in-Tasks-clause-event : goal.returns-in-Tasks-clause-event
returns-in-Tasks-clause-event g c =
    let h = c.in-Ok.ensures in
    let room : c.args.talk.now.events < 2 ^ 64 - 1 = omega arith in
    λ setup turns. goes-tasks setup c.args.talk.now _ _ c.requires.waits c.requires.sound c.requires.in_step c.requires.fits room c.in-Tasks.field-0 _ refl
    (telling-events (Tasks c.in-Tasks.field-0 ∷ []) _ _ (grind (arith, common_steps, h)) refl)

pub returns-in-Vfs-clause-idle : goal.returns-in-Vfs-clause-idle
returns-in-Vfs-clause-idle g c = c.in-Ok.ensures.out ∙ (λ i. after_event (c.in-Vfs.is i) (c.requires.idle i))

pub returns-in-Vfs-clause-event : goal.returns-in-Vfs-clause-event
returns-in-Vfs-clause-event g c =
    let h = c.in-Ok.ensures in
    let room : c.args.talk.now.events < 2 ^ 64 - 1 = omega arith in
    λ setup turns. goes-loader setup c.args.talk.now _ _ c.requires.waits c.requires.sound c.requires.in_step c.requires.fits room c.in-Vfs.field-0 _ refl
    (telling-events (Vfs c.in-Vfs.field-0 ∷ []) _ _ (grind (arith, common_steps, h)) refl)

pub returns-in-Flycheck-clause-event : goal.returns-in-Flycheck-clause-event
returns-in-Flycheck-clause-event g c =
    let h = c.in-Ok.ensures in
    let room : c.args.talk.now.events < 2 ^ 64 - 1 = omega arith in
    λ setup turns. goes-news setup c.args.talk.now _ _ c.requires.waits c.requires.sound c.requires.in_step c.requires.fits room
    (news.Flycheck c.in-Flycheck.field-0) _ refl
    (telling-events (Flycheck c.in-Flycheck.field-0 ∷ []) _ _ (grind (arith, common_steps, h)) refl)

pub returns-in-TestResult-clause-event : goal.returns-in-TestResult-clause-event
returns-in-TestResult-clause-event g c =
    let h = c.in-Ok.ensures in
    let room : c.args.talk.now.events < 2 ^ 64 - 1 = omega arith in
    λ setup turns. goes-news setup c.args.talk.now _ _ c.requires.waits c.requires.sound c.requires.in_step c.requires.fits room
    (news.TestResult c.in-TestResult.field-0) _ refl
    (telling-events (TestResult c.in-TestResult.field-0 ∷ []) _ _ (grind (arith, common_steps, h)) refl)

pub returns-in-DiscoverProject-clause-event : goal.returns-in-DiscoverProject-clause-event
returns-in-DiscoverProject-clause-event g c =
    let h = c.in-Ok.ensures in
    let room : c.args.talk.now.events < 2 ^ 64 - 1 = omega arith in
    λ setup turns. goes-news setup c.args.talk.now _ _ c.requires.waits c.requires.sound c.requires.in_step c.requires.fits room
    (news.DiscoverProject c.in-DiscoverProject.field-0) _ refl
    (telling-events (DiscoverProject c.in-DiscoverProject.field-0 ∷ []) _ _ (grind (arith, common_steps, h)) refl)

pub returns-in-DeferredTask-clause-idle : goal.returns-in-DeferredTask-clause-idle
returns-in-DeferredTask-clause-idle g c = c.in-Ok.ensures.out ∙ (λ i. after_event (c.in-DeferredTask.is i) (c.requires.idle i))

pub returns-in-DeferredTask-clause-event : goal.returns-in-DeferredTask-clause-event
returns-in-DeferredTask-clause-event g c =
    let h = c.in-Ok.ensures in
    let room : c.args.talk.now.events < 2 ^ 64 - 1 = omega arith in
    λ setup turns. goes-deferred setup c.args.talk.now _ _ c.requires.waits c.requires.sound c.requires.in_step c.requires.fits room c.in-DeferredTask.field-0 _
    refl
    (telling-events (DeferredTask c.in-DeferredTask.field-0 ∷ []) _ _ (grind (arith, common_steps, h)) refl)

pub returns-in-Timer-clause-idle : goal.returns-in-Timer-clause-idle
returns-in-Timer-clause-idle g c = c.in-Ok.ensures.out ∙ (λ i. after_event (c.in-Timer.is i) (c.requires.idle i))

pub returns-in-Timer-clause-event : goal.returns-in-Timer-clause-event
returns-in-Timer-clause-event g c =
    let h = c.in-Ok.ensures in
    let room : c.args.talk.now.events < 2 ^ 64 - 1 = omega arith in
    λ setup turns. goes-timer setup c.args.talk.now _ _ c.requires.waits c.requires.sound c.requires.in_step c.requires.fits room c.in-Timer.field-0 _ refl
    (telling-events (Timer c.in-Timer.field-0 ∷ []) _ _ (grind (arith, common_steps, h)) refl)

pub returns-clause-event : goal.returns-clause-event
returns-clause-event g c =
    let h = c.in-Ok.ensures in
    let room : c.args.talk.now.events < 2 ^ 64 - 1 = omega arith in
    λ setup turns. advances-feed setup c.args.talk.now _ _ c.requires.waits c.requires.sound c.requires.in_step c.requires.fits room c.in-Bytes.bytes _ _
    c.feed.ensures.ok c.feed.ensures.fits c.feed.ensures.err
    (telling-events (Bytes c.in-Bytes.bytes ∷ []) _ _ (grind (arith, common_steps, h)) refl)
