-- What assignments add.
use Rattle.std.specs.Prelude.{ℕ, Bool, true, false, List, Option, Some, None, option_map, bytes_eq, codes, if◌then◌else◌}
use Rattle.std.proofs.Common.{◌≡◌, refl, sym, ap, ◌∙◌}
use Rattle.base.specs.declared.range.Range.{Range}
use Rattle.es_token.specs.declared.token.Token.{Token}
use Rattle.es_ast.specs.declared.ast.Expr.{Expr}
use Rattle.es_ast.specs.declared.ast.Pat.{Pat, out-Pat, out-roll-Pat}
use Rattle.es_ast.specs.declared.ast.Pat.TheVariants as vPat
use Rattle.es_ast.specs.declared.ast.ClassMember.TheOpen.{Pat-F}
use Rattle.es_site.specs.Parts.{Whole}
use Rattle.es_lowering.specs.Value.{Value, given, turns, pat_at, pat_prop_at}
use Rattle.es_lowering.specs.Texts.{ident_of, str_of}
use Rattle.es_lowering.specs.Expressions.{elements}
use Rattle.es_view_expressions.specs.pattern.Pat as view
use Rattle.cjs_facts.specs.declared.found.Found.{Found}
use Rattle.cjs_facts.specs.Looks.{Name, Key, Object, Look, named, text, member, other, look, required_by, target_in}
use Rattle.cjs_facts.specs.Exports.{look_of, is_exports_object, exports_like, key_found, target_found, exports_found, assigned}
use Rattle.cjs_facts.specs.Looks.{right_of}
use Rattle.cjs_looks.specs.Seen.{Tells, text_of}
use Rattle.cjs_calls.specs.Rights.{Rights}
use Rattle.cjs_calls.specs.Assigns.{Members, Targets, Assigns}

module _ (object : Object) (key : Key) (r : Option Expr) (old new : Found) where
  pub member_set : (is : Bool) (l : Look) → is ≡ is_exports_object object → is ≡ true → Tells look r l
      → new ≡ key_found key l old → Members object key r old new
  member_set is l e is_so told made = go r told
    where
      go : (r : Option Expr) → Tells look r l → Members object key r old new
      go None told = record { sets = tt }
      go (Some a) told = record {
        sets = made ∙ (ap (λ (k : Look). key_found key k old) (sym told.told)
            ∙ sym (ap (λ (b : Bool). if b then key_found key (look a) old else old) (sym e ∙ is_so)));
      }

  -- ---- by what the target looks like
  pub exports_set : exports_like (member object key) ≡ true → Rights r old new → Targets (member object key) r old new
  exports_set e adds = go r adds
    where
      go : (r : Option Expr) → Rights r old new → Targets (member object key) r old new
      go None adds = record { sets = tt }
      go (Some a) adds = record {
        sets = adds.adds ∙ sym (ap (λ (b : Bool). if b then exports_found (right_of a) old
            else (if is_exports_object object then key_found key (look a) old else old)) e);
      }

  pub key_set : exports_like (member object key) ≡ false → Members object key r old new
      → Targets (member object key) r old new
  key_set e adds = go r adds
    where
      go : (r : Option Expr) → Members object key r old new → Targets (member object key) r old new
      go None adds = record { sets = tt }
      go (Some a) adds = record {
        sets = adds.sets ∙ sym (ap (λ (b : Bool). if b then exports_found (right_of a) old
            else (if is_exports_object object then key_found key (look a) old else old)) e);
      }

pub member_passed : (object : Object) (key : Key) (r : Option Expr) (old : Found) (is : Bool)
    → is ≡ is_exports_object object → is ≡ false → Members object key r old old
member_passed object key None old is e not_so = record { sets = tt }
member_passed object key (Some a) old is e not_so = record {
  sets = sym (ap (λ (b : Bool). if b then key_found key (look a) old else old) (sym e ∙ not_so));
}

pub name_set : (name : Name) (r : Option Expr) (old new : Found) → bytes_eq name (codes "exports") ≡ true
    → Rights r old new → Targets (named name) r old new
name_set name None old new e adds = record { sets = tt }
name_set name (Some a) old new e adds = record {
  sets = adds.adds ∙ sym (ap (λ (b : Bool). if b then exports_found (right_of a) old else old) e);
}

pub name_passed : (name : Name) (r : Option Expr) (old : Found) → bytes_eq name (codes "exports") ≡ false
    → Targets (named name) r old old
name_passed name None old e = record { sets = tt }
name_passed name (Some a) old e = record {
  sets = sym (ap (λ (b : Bool). if b then exports_found (right_of a) old else old) e);
}

module _ (r : Option Expr) (old : Found) where
  pub other_passed : Targets other r old old
  other_passed = go r
    where
      go : (r : Option Expr) → Targets other r old old
      go None = record { sets = tt }
      go (Some a) = record { sets = refl }

  pub text_passed : (x : List ℕ) (t : Option Token) → Targets (text_of x t) r old old
  text_passed x None = other_passed
  text_passed x (Some t) = go r
    where
      go : (r : Option Expr) → Targets (text (str_of x t).lone (str_of x t).value) r old old
      go None = record { sets = tt }
      go (Some a) = record { sets = refl }

  pub required_passed : (x : List ℕ) (t : Option Token) → Targets (required_by (text_of x t)) r old old
  required_passed x None = other_passed
  required_passed x (Some t) = by (str_of x t).lone (str_of x t).value r
    where
      by : (lone : Bool) (value : Name) (r : Option Expr) → Targets (required_by (text lone value)) r old old
      by true value None = record { sets = tt }
      by true value (Some a) = record { sets = refl }
      by false value None = record { sets = tt }
      by false value (Some a) = record { sets = refl }

-- ---- by the pattern
assigned_by : (p : Pat) (w : Whole Pat-F) (r : Expr) (f : Found) → out-Pat p ≡ w
    → assigned p r f ≡ target_found (look_of (target_in w)) r f
unfolding assigned
assigned_by p w r f e = ap (λ (v : Whole Pat-F). target_found (look_of (target_in v)) r f) e

pub expr_assigned : (left right : Option Expr) (l : Look) (old new : Found) → Tells look left l
    → Targets l right old new → Assigns (option_map vPat.Expr left) right old new
expr_assigned None right l old new told sets = record { sets = tt }
expr_assigned (Some a) None l old new told sets = record { sets = tt }
expr_assigned (Some a) (Some r) l old new told sets = record {
  sets = sets.sets ∙ (ap (λ (k : Look). target_found k r old) (sym told.told)
      ∙ sym (assigned_by (vPat.Expr a) (Pat-F.Pat::Expr a) r old
      (sym (ap out-Pat (vPat.rolls-Expr a)) ∙ out-roll-Pat (Pat-F.Pat::Expr a))));
}

-- no expression
none_assigned : {A : Type 0} (o : Option A) (make : A → Pat) (r : Option Expr) (old : Found)
    → ((a : A) → target_in (out-Pat (make a)) ≡ None) → Assigns (option_map make o) r old old
unfolding assigned
none_assigned None make r old each = record { sets = tt }
none_assigned (Some a) make None old each = record { sets = tt }
none_assigned (Some a) make (Some r) old each = record {
  sets = sym (ap (λ (o : Option Expr). target_found (look_of o) r old) (each a));
}

module _ (right : Option Expr) (old : Found) where
  pub ident_assigned : (x : List ℕ) (o : Option Token) → Assigns (view.ident x o) right old old
  unfolding view.ident
  ident_assigned x o =
      none_assigned o _ right old (λ t.
      ap target_in (sym (ap out-Pat (vPat.rolls-Ident (ident_of x t) None t.range))
      ∙ out-roll-Pat (Pat-F.Pat::Ident (ident_of x t) None t.range)))

  module _ (ts : List Token) (range : Range) where
    pub array_assigned : (from : ℕ) (v : Value) → Assigns (view.array ts range from v) right old old
    unfolding view.array
    array_assigned from v =
        none_assigned (elements vPat.Hole pat_at ts _ v) (λ elems. vPat.Array elems false None range) right old
        (λ elems. ap target_in (sym (ap out-Pat (vPat.rolls-Array elems false None range))
        ∙ out-roll-Pat (Pat-F.Pat::Array elems false None range)))

  module _ (range : Range) where
    pub object_assigned : (v : Value) → Assigns (view.object range v) right old old
    unfolding view.object
    object_assigned v =
        none_assigned (turns (λ turn. pat_prop_at turn 0) v) (λ props. vPat.Object props false None range) right old
        (λ props. ap target_in (sym (ap out-Pat (vPat.rolls-Object props false None range))
        ∙ out-roll-Pat (Pat-F.Pat::Object props false None range)))

    pub rest_assigned : (arg : Option Pat) → Assigns (view.rest range arg) right old old
    unfolding view.rest
    rest_assigned arg =
        none_assigned arg (λ arg. vPat.Rest arg None range) right old
        (λ arg. ap target_in (sym (ap out-Pat (vPat.rolls-Rest arg None range))
        ∙ out-roll-Pat (Pat-F.Pat::Rest arg None range)))

    pub default_assigned : (left : Option Pat) (value : Option Expr)
        → Assigns (view.default range left value) right old old
    unfolding view.default
    default_assigned None value = record { sets = tt }
    default_assigned (Some left) value =
        none_given value (λ value. vPat.Assign left value range) (λ value.
        ap target_in (sym (ap out-Pat (vPat.rolls-Assign left value range))
        ∙ out-roll-Pat (Pat-F.Pat::Assign left value range)))
      where
        none_given : (o : Option Expr) (make : Expr → Pat) → ((a : Expr) → target_in (out-Pat (make a)) ≡ None)
            → Assigns (given o (λ a. Some (make a))) right old old
        none_given None make each = record { sets = tt }
        none_given (Some a) make each = none_assigned (Some a) make right old each
