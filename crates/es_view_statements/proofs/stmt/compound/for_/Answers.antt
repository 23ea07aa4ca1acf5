use Rattle.std.specs.Prelude.{Option, Some, None}
use Rattle.std.proofs.Common.{◌≡◌, refl}
use Rattle.es_ast.specs.declared.ast.Stmt.{Stmt}
use Rattle.es_lowering.specs.Value.{given, group, optional, expr_at}
use Rattle.es_lowering.specs.Statements.{for_, start_of_for}
use Rattle.es_syntax.specs.Held.{held}
use Rattle.es_view_statements.specs.stmt.Compound.{for_of}
use Rattle.es_view_statements.proofs.stmt.compound.for_.Goals as goal

abbrev nothing : Option Stmt
nothing = None

-- nothing comes of three parts where nothing comes of a fourth
none_behind : {A B C : Type 0} (a : Option A) (b : Option B) (c : Option C)
    → given a (λ (x : A). given b (λ (y : B). given c (λ (z : C). nothing))) ≡ nothing
none_behind None b c = refl
none_behind (Some x) None c = refl
none_behind (Some x) (Some y) None = refl
none_behind (Some x) (Some y) (Some z) = refl

-- part by part
pub returns-in-Some-clause-form : goal.returns-in-Some-clause-form
unfolding for_ for_of
returns-in-Some-clause-form c = λ x ts r.
    rw (
      c.in-Some.ensures.value x ts,
      c.group_at.ensures.value x ts,
      c.group_at-in-Some.ensures.value x ts,
      c.group_at-in-Some-2.ensures.value x ts,
      c.group_at-in-Some-3.ensures.value x ts,
      c.group_at-in-Some-4.ensures.value x ts,
    ) refl

pub returns-in-None-clause-form : goal.returns-in-None-clause-form
unfolding for_
returns-in-None-clause-form c = λ x ts r.
    let p = held x ts c.args.parts.now.entries.now in
    rw (c.in-None.ensures.value x ts)
    (none_behind (start_of_for ts p) (optional expr_at (group p 3)) (optional expr_at (group p 4)))
