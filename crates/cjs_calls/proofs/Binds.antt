-- What declarators add.
use Rattle.std.specs.Prelude.{◌+◌, ℕ, Bool, false, List, Option, Some, None, option_map}
use Rattle.std.proofs.Common.{◌≡◌, refl, sym, ap, subst, ◌∙◌}
use Rattle.base.specs.declared.range.Range.{Range}
use Rattle.es_token.specs.declared.token.Token.{Token}
use Rattle.es_ast.specs.declared.ts.ts.TsPart.{TsPart}
use Rattle.es_ast.specs.declared.ts.ts.TsPart.TheVariants as vPart
use Rattle.es_ast.specs.declared.ast.Expr.{Expr}
use Rattle.es_ast.specs.declared.ast.Pat.{Pat, out-Pat, out-roll-Pat}
use Rattle.es_ast.specs.declared.ast.Pat.TheVariants as vPat
use Rattle.es_ast.specs.declared.ast.VarDeclarator.{roll-VarDeclarator, out-roll-VarDeclarator}
use Rattle.es_ast.specs.declared.ast.ClassMember.TheOpen.{Pat-F, VarDeclarator-F}
use Rattle.es_site.specs.Parts.{Whole}
use Rattle.es_lowering.specs.Value.{Value, nil, more, given, optional, turns, expr_at, pat_at, pat_prop_at, type_at}
use Rattle.es_lowering.specs.Texts.{ident_of}
use Rattle.es_lowering.specs.TypeTexts.{marked}
use Rattle.es_lowering.specs.Expressions.{elements}
use Rattle.es_lowering.specs.Statements.{declarator_of}
use Rattle.es_lowering.specs.TypedParts.{marked_by}
use Rattle.es_view_expressions.specs.pattern.Pat as view
use Rattle.es_view_expressions.specs.pattern.Marked as mark
use Rattle.es_view_statements.specs.decl.Declarator as declarator
use Rattle.cjs_facts.specs.declared.found.Found.{Found}
use Rattle.cjs_facts.specs.Looks.{Name, Look, look, pat_name_in}
use Rattle.cjs_facts.specs.Exports.{look_of, bind, bound}
use Rattle.cjs_looks.specs.Seen.{Tells, name_of}
use Rattle.cjs_calls.specs.Binds.{Binds, Declares, Marks, Bounds}

pub value_bound : (name : Name) (value : Option Expr) (l : Look) (old new : Found) → Tells look value l
    → new ≡ bind (Some name) l old → Binds name value old new
value_bound name None l old new told made = record { binds = tt }
value_bound name (Some e) l old new told made =
    record { binds = made ∙ ap (λ (k : Look). bind (Some name) k old) (sym told.told) }

-- ---- patterns
-- what is named so
named_by : {A : Type 0} (o : Option A) (make : A → Pat) (value : Option (Option Expr)) (old new : Found)
    → ((a : A) (v : Option Expr) → o ≡ Some a → value ≡ Some v
    → new ≡ bind (pat_name_in (out-Pat (make a))) (look_of v) old)
    → Declares (option_map make o) value old new
named_by None make value old new each = record { binds = tt }
named_by (Some a) make None old new each = record { binds = tt }
named_by (Some a) make (Some v) old new each = record { binds = each a v refl refl }

unnamed : {A : Type 0} (o : Option A) (make : A → Pat) (value : Option (Option Expr)) (old : Found)
    → ((a : A) → pat_name_in (out-Pat (make a)) ≡ None) → Declares (option_map make o) value old old
unnamed o make value old each =
    named_by o make value old old (λ a v e is.
    sym (ap (λ (name : Option Name). bind name (look_of v) old) (each a)))

pub ident_bound : (x : List ℕ) (o : Option Token) (value : Option Expr) (old new : Found)
    → Binds (name_of x o) value old new → Declares (view.ident x o) (option_map Some value) old new
unfolding view.ident
ident_bound x None value old new binds = record { binds = tt }
ident_bound x (Some t) None old new binds = record { binds = tt }
ident_bound x (Some t) (Some e) old new binds = record {
  binds = binds.binds ∙ sym (ap (λ (w : Whole Pat-F). bind (pat_name_in w) (look e) old)
      (sym (ap out-Pat (vPat.rolls-Ident (ident_of x t) None t.range))
      ∙ out-roll-Pat (Pat-F.Pat::Ident (ident_of x t) None t.range)));
}

module _ (value : Option (Option Expr)) (old : Found) where
  module _ (ts : List Token) (r : Range) where
    pub array_bound : (from : ℕ) (v : Value) → Declares (view.array ts r from v) value old old
    unfolding view.array
    array_bound from v =
        unnamed (elements vPat.Hole pat_at ts (from + 1) v) (λ elems. vPat.Array elems false None r) value old
        (λ elems. ap pat_name_in (sym (ap out-Pat (vPat.rolls-Array elems false None r))
        ∙ out-roll-Pat (Pat-F.Pat::Array elems false None r)))

  module _ (r : Range) where
    pub object_bound : (v : Value) → Declares (view.object r v) value old old
    unfolding view.object
    object_bound v =
        unnamed (turns (λ turn. pat_prop_at turn 0) v) (λ props. vPat.Object props false None r) value old
        (λ props. ap pat_name_in (sym (ap out-Pat (vPat.rolls-Object props false None r))
        ∙ out-roll-Pat (Pat-F.Pat::Object props false None r)))

    pub rest_bound : (arg : Option Pat) → Declares (view.rest r arg) value old old
    unfolding view.rest
    rest_bound arg =
        unnamed arg (λ arg. vPat.Rest arg None r) value old
        (λ arg. ap pat_name_in (sym (ap out-Pat (vPat.rolls-Rest arg None r))
        ∙ out-roll-Pat (Pat-F.Pat::Rest arg None r)))

    pub default_bound : (left : Option Pat) (right : Option Expr) → Declares (view.default r left right) value old old
    unfolding view.default
    default_bound None right = record { binds = tt }
    default_bound (Some left) None = record { binds = tt }
    default_bound (Some left) (Some right) =
        unnamed (Some right) (λ right. vPat.Assign left right r) value old
        (λ right. ap pat_name_in (sym (ap out-Pat (vPat.rolls-Assign left right r))
        ∙ out-roll-Pat (Pat-F.Pat::Assign left right r)))

  pub target_bound : (e : Option Expr) → Declares (view.target e) value old old
  unfolding view.target
  target_bound e =
      unnamed e vPat.Expr value old
      (λ e. ap pat_name_in (sym (ap out-Pat (vPat.rolls-Expr e)) ∙ out-roll-Pat (Pat-F.Pat::Expr e)))

-- ---- patterns with marks
module _ (x : List ℕ) (o : Option Token) where
  one_name : (t : Option Token) (value : Option Expr) (old new : Found) → Binds (name_of x t) value old new
      → Marks (mark.ident x t) (option_map Some value) old new
  unfolding mark.ident
  one_name None value old new binds = record { binds = tt }
  one_name (Some t) None old new binds = record { binds = tt }
  one_name (Some t) (Some e) old new binds = record {
    binds = λ is ty r.
        binds.binds ∙ sym (ap (λ (w : Whole Pat-F). bind (pat_name_in w) (look e) old)
        (sym (ap out-Pat (vPat.rolls-Ident (marked is (ident_of x t)) ty r))
        ∙ out-roll-Pat (Pat-F.Pat::Ident (marked is (ident_of x t)) ty r)));
  }

  pub name_valued : (v u us : Value) (old new : Found) → v ≡ more u us
      → Binds (name_of x o) (expr_at (more u us) 0) old new → Marks (mark.ident x o) (optional expr_at v) old new
  name_valued v u us old new e binds =
      subst (λ (w : Value). Marks (mark.ident x o) (optional expr_at w) old new) (sym e)
      (one_name o (expr_at (more u us) 0) old new binds)

  pub name_alone : (v : Value) (old : Found) → v ≡ nil → Marks (mark.ident x o) (optional expr_at v) old old
  unfolding mark.ident
  name_alone v old e =
      subst (λ (w : Value). Marks (mark.ident x o) (optional expr_at w) old old) (sym e) (go o)
    where
      go : (o : Option Token) → Marks (mark.ident x o) (Some None) old old
      go None = record { binds = tt }
      go (Some t) = record {
        binds = λ is ty r.
            sym (ap (λ (w : Whole Pat-F). bind (pat_name_in w) (look_of None) old)
            (sym (ap out-Pat (vPat.rolls-Ident (marked is (ident_of x t)) ty r))
            ∙ out-roll-Pat (Pat-F.Pat::Ident (marked is (ident_of x t)) ty r)));
      }

module _ (value : Option (Option Expr)) (old : Found) where
  none_marked : {A : Type 0} (o : Option A) (make : A → mark.AMarked)
      → ((a : A) (is : Bool) (ty : Option TsPart) (r : Range) → pat_name_in (out-Pat (make a is ty r)) ≡ None)
      → Marks (option_map make o) value old old
  none_marked o make each = go o value
    where
      go : (o : Option _) (value : Option (Option Expr)) → Marks (option_map make o) value old old
      go None value = record { binds = tt }
      go (Some a) None = record { binds = tt }
      go (Some a) (Some v) = record {
        binds = λ is ty r. sym (ap (λ (name : Option Name). bind name (look_of v) old) (each a is ty r));
      }

  pub marked_array : (ts : List Token) (from : ℕ) (v : Value) → Marks (mark.array ts from v) value old old
  unfolding mark.array
  marked_array ts from v =
      none_marked (elements vPat.Hole pat_at ts (from + 1) v) (λ elems is ty r. vPat.Array elems is ty r)
      (λ elems is ty r. ap pat_name_in (sym (ap out-Pat (vPat.rolls-Array elems is ty r))
      ∙ out-roll-Pat (Pat-F.Pat::Array elems is ty r)))

  pub marked_object : (v : Value) → Marks (mark.object v) value old old
  unfolding mark.object
  marked_object v =
      none_marked (turns (λ turn. pat_prop_at turn 0) v) (λ props is ty r. vPat.Object props is ty r)
      (λ props is ty r. ap pat_name_in (sym (ap out-Pat (vPat.rolls-Object props is ty r))
      ∙ out-roll-Pat (Pat-F.Pat::Object props is ty r)))

-- ---- declarators
bound_by : (w : Whole VarDeclarator-F) (f : Found)
    → bound (roll-VarDeclarator w) f ≡ bind (pat_name_in (out-Pat w.name)) (look_of w.init) f
unfolding bound
bound_by w f =
    ap (λ (it : Whole VarDeclarator-F). bind (pat_name_in (out-Pat it.name)) (look_of it.init) f)
    (out-roll-VarDeclarator w)

module _ (old new : Found) where
  pub assigned_bound : (r : Range) (name : Option Pat) (value : Option Expr)
      → Declares name (option_map Some value) old new → Bounds (declarator.assigned r name value) old new
  unfolding declarator.assigned
  assigned_bound r None value binds = record { binds = tt }
  assigned_bound r (Some p) None binds = record { binds = tt }
  assigned_bound r (Some p) (Some e) binds = record { binds = binds.binds ∙ sym (bound_by _ old) }

  pub typed_bound : (span r : Range) (name : Option declarator.Marked) (definite : Bool) (ty v : Value)
      → Marks name (optional expr_at v) old new → Bounds (declarator.typed span r name definite ty v) old new
  unfolding declarator.typed
  typed_bound span r name definite ty v binds =
      go (option_map (λ ty. option_map vPart.TypeAnn ty) (optional type_at ty)) name (optional expr_at v) binds
    where
      go : (tys : Option (Option TsPart)) (name : Option declarator.Marked) (value : Option (Option Expr))
          → Marks name value old new
          → Bounds (given (given tys (λ ty. marked_by name false ty span)) (λ pat. given value (λ value.
          Some (roll-VarDeclarator (record { name = pat; definite = definite; init = value; span = r }))))) old new
      go None name value binds = record { binds = tt }
      go (Some ty) None value binds = record { binds = tt }
      go (Some ty) (Some m) None binds = record { binds = tt }
      go (Some ty) (Some m) (Some value) binds =
          record { binds = binds.binds false ty span ∙ sym (bound_by _ old) }

pub alone_bound : (r : Range) (name : Option Pat) (old : Found)
    → Bounds (option_map (declarator_of r None) name) old old
alone_bound r None old = record { binds = tt }
alone_bound r (Some p) old = record { binds = go (pat_name_in (out-Pat p)) ∙ sym (bound_by _ old) }
  where
    go : (o : Option Name) → old ≡ bind o (look_of None) old
    go None = refl
    go (Some name) = refl
