use Rattle.std.proofs.Common.{ap, sym, ◌∙◌}
use Rattle.es_lowering.specs.Value.{Value, as_group, group, is_there}
use Rattle.es_syntax.specs.Held.{valued}
use Rattle.cjs_calls.proofs.ArgumentForms.{described_spread}
use Rattle.cjs_calls.proofs.arguments.descriptor.Goals as goal

pub returns-then-has : goal.returns-then-has
returns-then-has c =
    let x = c.args.text.now in
    let ts = c.args.tokens.now in
    described_spread x ts (as_group (valued x ts c.args.turn.now))
    (ap (λ (v : Value). is_there (group v 0)) (sym (c.group-parts.ensures.value x ts))
    ∙ (c.has.ensures x ts ∙ c.if-has.true))
