use Rattle.std.specs.Prelude.{List}
use Rattle.std.proofs.Common.{sym, subst}
use Rattle.grammar_theory.specs.Key.{keys_of}
use Rattle.es_lookahead.specs.declared.ends.Angle.{Angle}
use Rattle.es_lookahead.specs.Ends.{AreRight}
use Rattle.es_program_reader.proofs.plain.read_tree.Goals as goal

-- what is known of angles is right
pub invariant_of-grammar : goal.invariant_of-grammar
invariant_of-grammar c = record {
  right =
      subst (λ (angles : List Angle). AreRight (keys_of c.args.tokens.now) angles) (sym c.as_slice.ensures.value)
      c.in_ok-angles.ensures;
}
