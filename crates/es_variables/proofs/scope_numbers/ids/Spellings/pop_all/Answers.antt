use Rattle.std.specs.Prelude.{◌++◌}
use Rattle.std.proofs.Common.{◌∙◌, ap}
use Rattle.std.proofs.lemmas.List.{append-nil}
use Rattle.es_variables.specs.scope_numbers.Stacks.{copies}
use Rattle.es_variables.proofs.scope_numbers_lemmas.NameLemmas.{empty, pop_less}
use Rattle.es_variables.proofs.scope_numbers.ids.Spellings.pop_all.Goals as goal

pub loop-token-preserved : goal.loop-token-preserved
loop-token-preserved c =
    λ rest n so. let x = c.args.self.now.text.now in
    let ts = c.args.self.now.tokens.now in
    c.pop.ensures (λ q. rest q ++ copies x ts n c.in-Some.before.now q) n
    (pop_less x ts n c.in-Some.token.now c.loop-token.row.now c.in-Some.before.now _ rest c.in-Some.ensures.cases.0
    (c.loop-token.invariant rest n so))

pub returns : goal.returns
returns c =
    λ rest n so q. c.loop-token.invariant rest n so q
    ∙ ap (λ row. rest q ++ copies c.args.self.now.text.now c.args.self.now.tokens.now n row q)
    (empty c.loop-token.row.now c.in_default.ensures.cases)
    ∙ append-nil (rest q)
