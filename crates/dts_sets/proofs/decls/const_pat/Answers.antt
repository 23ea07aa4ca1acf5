use Rattle.std.specs.Prelude.{slice_get}
use Rattle.es_lowering.specs.Texts.{span_of}
use Rattle.es_view_expressions.specs.pattern.Pat.{the_pat}
use Rattle.dts_sets.specs.Known.{pat_sets}
use Rattle.dts_sets.proofs.Grown.{adds_by}
use Rattle.dts_sets.proofs.DeclLemmas.{adds_name}
use Rattle.dts_sets.proofs.decls.const_pat.Goals as goal

-- the name that the pattern is
pub returns-in-Some-Ident-clause-adds : goal.returns-in-Some-Ident-clause-adds
returns-in-Some-Ident-clause-adds c = λ e init fits number numbered.
    let x = c.args.text.now in
    let ts = c.args.tokens.now in
    let it = c.args.pat.now in
    adds_by (pat_sets init number) c.args.out.now c.token.new.self _ (the_pat x ts (span_of ts it.from it.to))
    c.in-Some-Ident.field-0 _ (c.in-Some-Ident.ensures.form x ts) c.in-Some-Ident.field-0-is
    (adds_name init number x (slice_get ts c.in-Some-Ident.token) c.args.flags c.args.out.now c.token.new.self fits
    (c.token.ensures.adds e number numbered))
