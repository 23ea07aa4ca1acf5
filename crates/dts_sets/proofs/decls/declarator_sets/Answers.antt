use Rattle.std.proofs.Common.{refl, false}
use Rattle.es_lowering.specs.Texts.{span_of}
use Rattle.es_view_statements.specs.decl.Declarator.{the_declarator}
use Rattle.dts_rules.specs.Sets.{const_sets}
use Rattle.dts_sets.proofs.Grown.{adds_by}
use Rattle.dts_sets.proofs.DeclLemmas.{adds_typed, adds_pattern}
use Rattle.dts_sets.proofs.decls.declarator_sets.Goals as goal

-- a pattern that may have a type, by whatever value
pub returns-in-Some-Typed-clause-adds : goal.returns-in-Some-Typed-clause-adds
returns-in-Some-Typed-clause-adds c = λ e number numbered.
    let x = c.args.text.now in
    let ts = c.args.tokens.now in
    let it = c.args.it.now in
    adds_by (const_sets number) c.args.out.now c.const_marked.new.out _ (the_declarator x ts (span_of ts it.from it.to))
    c.in-Some-Typed.field-0 _ (c.in-Some-Typed.ensures.form x ts) c.in-Some-Typed.field-0-is
    (adds_typed number c.args.out.now c.const_marked.new.out _ _ _ _ _ _ c.typed_flags-flags.result
    c.typed_flags-flags.ensures (λ ty r init fits. c.const_marked.ensures.adds e ty r init fits number numbered))

-- a pattern alone
pub returns-in-Some-Pattern-clause-adds : goal.returns-in-Some-Pattern-clause-adds
returns-in-Some-Pattern-clause-adds c = λ e number numbered.
    let x = c.args.text.now in
    let ts = c.args.tokens.now in
    let it = c.args.it.now in
    adds_by (const_sets number) c.args.out.now c.const_pat-in-Some-Pattern.new.out _
    (the_declarator x ts (span_of ts it.from it.to)) c.in-Some-Pattern.field-0 _ (c.in-Some-Pattern.ensures.form x ts)
    c.in-Some-Pattern.field-0-is
    (adds_pattern number c.args.out.now c.const_pat-in-Some-Pattern.new.out _ _
    (record { typeofs = false; plain = false; arrays = false }) refl refl refl
    (λ init fits. c.const_pat-in-Some-Pattern.ensures.adds e init fits number numbered))
