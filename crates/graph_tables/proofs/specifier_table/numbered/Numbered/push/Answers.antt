use Rattle.std.proofs.Common.{◌∙◌, ap, ◌++◌, ◌∷◌, []}
use Rattle.url.specs.Parts.{serialize}
use Rattle.graph_tables.specs.specifier_table.Numbers.{number_of}
use Rattle.graph_tables.proofs.specifier_table_lemmas.NumbersLemmas.{numbering_push, popped}
use Rattle.graph_tables.proofs.specifier_table.numbered.Numbered.push.Goals as goal

pub invariant_of-self-in-Ok : goal.invariant_of-self-in-Ok
invariant_of-self-in-Ok g c =
    (numbering_push c.self.inside.numbers.keys c.insert.new.self.keys c.self.inside.values c.push.new.self
    c.args.specifier c.args.value c.self.invariant.0
    (ap (λ es. number_of es (serialize c.args.specifier)) c.self.view_is ∙ c.requires.new)
    c.in-Ok.ensures.keys c.in_ok-push.ensures.ok c.in-Ok.ensures.unique).0

pub returns-in-Ok-clause-ok : goal.returns-in-Ok-clause-ok
returns-in-Ok-clause-ok g c =
    (numbering_push c.self.inside.numbers.keys c.insert.new.self.keys c.self.inside.values c.push.new.self
    c.args.specifier c.args.value c.self.invariant.0
    (ap (λ es. number_of es (serialize c.args.specifier)) c.self.view_is ∙ c.requires.new)
    c.in-Ok.ensures.keys c.in_ok-push.ensures.ok c.in-Ok.ensures.unique).1
    ∙ ap (λ es. es ++ (c.args.specifier, c.args.value) ∷ []) c.self.view_is

pub invariant_of-self-in-Err : goal.invariant_of-self-in-Err
invariant_of-self-in-Err g c =
    let back = popped c.self.inside.values c.push.new.self c.pop.new.self c.args.value c.pop.result
    c.in_ok-push.ensures.ok c.pop.ensures in
    rw (c.in-Err.ensures.err, back) c.self.invariant

pub returns-in-Err-clause-err : goal.returns-in-Err-clause-err
returns-in-Err-clause-err g c =
    let back = popped c.self.inside.values c.push.new.self c.pop.new.self c.args.value c.pop.result
    c.in_ok-push.ensures.ok c.pop.ensures in
    rw (c.in-Err.ensures.err, back) c.self.view_is
