use Rattle.es_changed.specs.declared.entry.Word.TheVariants as word
use Rattle.dts_leaves.proofs.Words.{own_by}
use Rattle.dts_leaves.proofs.literals.bool_type.Goals as goal

-- the word itself
pub returns-then-literal-clause-written : goal.returns-then-literal-clause-written
returns-then-literal-clause-written c = λ e x ts.
    own_by x ts word.Boolean c.if-literal.true (c.gone.ensures.written (c.token_node.ensures.before e) x ts)
    (c.token_node.ensures.written e x ts)
