use Rattle.std.proofs.Common.{rules, arith, refl, inr, sym, subst, ◌≡◌}
use Rattle.std.proofs.lemmas.Grind.{common_steps}
use Rattle.session_port.specs.Record.{AreRising, spawned}
use Rattle.session_laws.specs.Meaning.{Meaning, meaning_of}
use Rattle.session_laws.specs.Run.{Turn, Steps, told_of}
use Rattle.session_laws.proofs.Rising.{steps-hand}
use Rattle.session_laws.proofs.Stretches.{telling-turn}
use Rattle.session.proofs.run.run_turn.Goals as goal

pub order-requires : goal.order-requires
order-requires g c =
    let meaning : Meaning = meaning_of g.A.Analysis.decodes g.A.Analysis.answer in
    let turn : Turn = record { input = c.args.input; messages = c.take_input.new.out.messages; commands = c.take_input.new.out.commands } in
    let steps : Steps meaning c.args.state.now turn c.take_input.new.state = search rules in
    let same : c.into_commands.result ≡ turn.commands = search rules in
    let rising = (steps-hand meaning c.args.state.now turn c.take_input.new.state steps).rising in
    record {
      usable = c.requires.host_usable;
      rising = subst (λ cs. AreRising (g.H.Host.last_job c.args.host.now) (spawned cs)) (sym same)
          (subst (λ n. AreRising n (spawned turn.commands)) (sym c.requires.last_job) rising);
    }

pub returns-in-Ok-order-clause-turn : goal.returns-in-Ok-order-clause-turn
returns-in-Ok-order-clause-turn g c =
    let turn : Turn = record { input = c.args.input; messages = c.take_input.new.out.messages; commands = c.take_input.new.out.commands } in
    record {
      turn = turn;
      input_is = refl;
      steps = search rules;
      read = search rules;
      told = grind (arith, common_steps);
      out_is = grind (arith, common_steps);
    }

pub returns-in-Ok-order-clause-last_job : goal.returns-in-Ok-order-clause-last_job
returns-in-Ok-order-clause-last_job g c =
    let meaning : Meaning = meaning_of g.A.Analysis.decodes g.A.Analysis.answer in
    let turn : Turn = record { input = c.args.input; messages = c.take_input.new.out.messages; commands = c.take_input.new.out.commands } in
    let steps : Steps meaning c.args.state.now turn c.take_input.new.state = search rules in
    let same : c.into_commands.result ≡ turn.commands = search rules in
    let before : g.H.Host.last_job c.args.host.now ≡ c.args.state.now.desk.last_job = c.requires.last_job in
    let last = (steps-hand meaning c.args.state.now turn c.take_input.new.state steps).last in
    let h = c.in-Ok-order.ensures in
    grind (arith, common_steps, h, last, same, before)

pub returns-in-Err-Failed-order-clause-turn : goal.returns-in-Err-Failed-order-clause-turn
returns-in-Err-Failed-order-clause-turn g c =
    let turn : Turn = record { input = c.args.input; messages = c.take_input.new.out.messages; commands = c.take_input.new.out.commands } in
    let h = c.in-Err-Failed-order.ensures in
    record {
      turn = turn;
      input_is = refl;
      steps = search rules;
      read = search rules;
      told = telling-turn turn (told_of (g.H.Host.calls c.args.host.now) (g.S.Sink.turns c.args.sink.now))
          (told_of (g.H.Host.calls c.order.new.self) (g.S.Sink.turns c.put_turn.new.self))
          (grind (arith, common_steps, h)) (grind (arith, common_steps));
    }

pub returns-clause-turn : goal.returns-clause-turn
returns-clause-turn g c =
    let turn : Turn = record { input = c.args.input; messages = c.take_input.new.out.messages; commands = c.take_input.new.out.commands } in
    let h = c.in-Err-NoMemory-order.ensures in
    inr (record {
      turn = turn;
      input_is = refl;
      steps = search rules;
      read = search rules;
      told = telling-turn turn (told_of (g.H.Host.calls c.args.host.now) (g.S.Sink.turns c.args.sink.now))
          (told_of (g.H.Host.calls c.order.new.self) (g.S.Sink.turns c.put_turn.new.self))
          (grind (arith, common_steps, h)) (grind (arith, common_steps));
    })
