use Rattle.std.proofs.Common.{sym, subst}
use Rattle.es_view_expressions.specs.declared.call.post.Post.{Post}
use Rattle.es_view_expressions.specs.call.Post.{the_post}
use Rattle.std.specs.Prelude.{None}
use Rattle.cjs_table.specs.Chains.{CallsOf}
use Rattle.cjs_table.proofs.CallViews.{non_null_is}
use Rattle.cjs_table.proofs.chain.call_in.Goals as goal

pub returns-in-NonNull : goal.returns-in-NonNull
returns-in-NonNull c x ts r =
    subst (λ (view : Post). CallsOf None (the_post x ts r view)) (sym c.in-NonNull.is) (non_null_is r)
