use Rattle.std.specs.Prelude.{slice_get}
use Rattle.es_view_expressions.specs.pattern.Marked.{the_marked}
use Rattle.dts_sets.specs.Known.{marked_sets}
use Rattle.dts_sets.proofs.Grown.{adds_by}
use Rattle.dts_sets.proofs.DeclLemmas.{adds_marked_name}
use Rattle.dts_sets.proofs.decls.const_marked.Goals as goal

-- the name that the pattern is
pub returns-in-Some-Ident-clause-adds : goal.returns-in-Some-Ident-clause-adds
returns-in-Some-Ident-clause-adds c = λ e ty r init fits number numbered.
    let x = c.args.text.now in
    let ts = c.args.tokens.now in
    adds_by (marked_sets ty r init number) c.args.out.now c.token.new.self _ (the_marked x ts) c.in-Some-Ident.field-0 _
    (c.in-Some-Ident.ensures.form x ts) c.in-Some-Ident.field-0-is
    (adds_marked_name ty r init number x (slice_get ts c.in-Some-Ident.token) c.args.flags c.args.out.now
    c.token.new.self fits (c.token.ensures.adds e number numbered))
