use Rattle.std.specs.Prelude.{Bool, ◌∷◌, []}
use Rattle.std.proofs.Common.{length, sym, subst}
use Rattle.grammar_theory.specs.Productions.{test}
use Rattle.es_grammar.specs.declared.rows.NodeKind.{NodeKind}
use Rattle.es_syntax.specs.Held.{label_of}
use Rattle.es_rules.specs.Bounded.{form_at, wraps_at}
use Rattle.es_rules.specs.Steps.{keys_in, single, Writes, IsRead}
use Rattle.es_rules.proofs.WrapLemmas.{wraps_end}
use Rattle.es_rules.proofs.wraps.wraps.Goals as goal

-- a chain that leans left
pub returns-in-Some : goal.returns-in-Some
returns-in-Some g c =
    λ base t place written.
    let kept = c.if-not-grammar.false in
    subst (λ (l : NodeKind). IsRead c.args.grammar.now.input.keeps
    (wraps_at (keys_in c.args.grammar.now.input) l (test (g.C.Tells.told c.args.told.now))
    (form_at (keys_in c.args.grammar.now.input) (g.T.Rows.below c.args.grammar.now.rows c.args.grammar.now.input)
    (g.P.ReadsRhs.form c.args.turn.now)) c.args.from.token (length (keys_in c.args.grammar.now.input))
    (single t c.args.first) c.args.cursor.now.at) base
    c.leans.new.cursor c.leans.result) c.in-Some.ensures.some
    (subst (λ (b : Bool). IsRead b
    (wraps_at (keys_in c.args.grammar.now.input) (label_of c.in-Some.lean) (test (g.C.Tells.told c.args.told.now))
    (form_at (keys_in c.args.grammar.now.input) (g.T.Rows.below c.args.grammar.now.rows c.args.grammar.now.input)
    (g.P.ReadsRhs.form c.args.turn.now)) c.args.from.token (length (keys_in c.args.grammar.now.input))
    (single t c.args.first) c.args.cursor.now.at) base
    c.leans.new.cursor c.leans.result) (sym kept)
    (c.leans.ensures base t place
    (subst (λ (b : Bool). Writes b base c.args.cursor.now.row (t ∷ [])) kept written)))

-- no turn stands there
pub returns-then-not-is_there : goal.returns-then-not-is_there
returns-then-not-is_there g c =
    λ base t place written. (
      t,
      written,
      wraps_end (keys_in c.args.grammar.now.input) c.args.label (test (g.C.Tells.told c.args.told.now))
          (form_at (keys_in c.args.grammar.now.input) (g.T.Rows.below c.args.grammar.now.rows c.args.grammar.now.input)
          (g.P.ReadsRhs.form c.args.turn.now)) c.args.from.token (length (keys_in c.args.grammar.now.input))
          (single t c.args.first) c.args.cursor.now.at (sym c.if-not-is_there.ensures),
    )
