-- The names of each form of patterns, from those of its parts.
use Rattle.std.specs.Prelude.{ℕ, Bool, List, [], ◌∷◌, ◌++◌, Option, Some, None, map}
use Rattle.std.specs.List.{flat_map}
use Rattle.std.proofs.Common.{◌≡◌, refl, sym, ap, ◌∙◌}
use Rattle.base.specs.declared.range.Range.{Range}
use Rattle.es_ast.specs.declared.ts.leaf.Ident.{Ident}
use Rattle.es_ast.specs.declared.ts.ts.TsPart.{TsPart}
use Rattle.es_ast.specs.declared.ast.Expr.{Expr}
use Rattle.es_ast.specs.declared.ast.ObjectPatProp.{ObjectPatProp}
use Rattle.es_ast.specs.declared.ast.ObjectPatProp.TheVariants as vProp
use Rattle.es_ast.specs.declared.ast.Pat.{Pat}
use Rattle.es_ast.specs.declared.ast.Pat.TheVariants as vPat
use Rattle.es_ast.specs.declared.ast.ClassMember.TheOpen.{ObjectPatProp-F, Pat-F}
use Rattle.es_ast.specs.declared.ast.ClassMember.TheFolds.{fold-roll-ObjectPatProp, fold-roll-Pat}
use Rattle.es_site.specs.Parts.{Whole}
use Rattle.es_bound_names.specs.Names.{Names, all_of, no_names, in_prop, in_pat, bound_names, prop_names}

pub all_map : {A : Type 0} (f : A → Names) (xs : List A) → all_of (map f xs) ≡ flat_map f xs
all_map f [] = refl
all_map f (x ∷ xs) = ap (λ rest. f x ++ rest) (all_map f xs)

-- ---- patterns
pub pat_Ident : (id : Ident) (ty : Option TsPart) (r : Range) → bound_names (vPat.Ident id ty r) ≡ id.sym ∷ []
unfolding bound_names prop_names
pat_Ident id ty r =
    ap bound_names (sym (vPat.rolls-Ident id ty r))
    ∙ fold-roll-Pat Names Names Names Names Names Names Names Names Names Names Names Names Names Names Names
    no_names no_names no_names no_names no_names in_prop in_pat no_names no_names no_names no_names no_names no_names
    no_names no_names (Pat-F.Pat::Ident id ty r)

pub pat_Hole : (r : Range) → bound_names (vPat.Hole r) ≡ []
unfolding bound_names prop_names
pat_Hole r =
    ap bound_names (sym (vPat.rolls-Hole r))
    ∙ fold-roll-Pat Names Names Names Names Names Names Names Names Names Names Names Names Names Names Names
    no_names no_names no_names no_names no_names in_prop in_pat no_names no_names no_names no_names no_names no_names
    no_names no_names (Pat-F.Pat::Hole r)

pub pat_Array : (elems : List Pat) (mark : Bool) (ty : Option TsPart) (r : Range)
    → bound_names (vPat.Array elems mark ty r) ≡ flat_map bound_names elems
unfolding bound_names prop_names
pat_Array elems mark ty r =
    ap bound_names (sym (vPat.rolls-Array elems mark ty r))
    ∙ fold-roll-Pat Names Names Names Names Names Names Names Names Names Names Names Names Names Names Names
    no_names no_names no_names no_names no_names in_prop in_pat no_names no_names no_names no_names no_names no_names
    no_names no_names (Pat-F.Pat::Array elems mark ty r)
    ∙ all_map bound_names elems

pub pat_Object : (props : List ObjectPatProp) (mark : Bool) (ty : Option TsPart) (r : Range)
    → bound_names (vPat.Object props mark ty r) ≡ flat_map prop_names props
unfolding bound_names prop_names
pat_Object props mark ty r =
    ap bound_names (sym (vPat.rolls-Object props mark ty r))
    ∙ fold-roll-Pat Names Names Names Names Names Names Names Names Names Names Names Names Names Names Names
    no_names no_names no_names no_names no_names in_prop in_pat no_names no_names no_names no_names no_names no_names
    no_names no_names (Pat-F.Pat::Object props mark ty r)
    ∙ all_map prop_names props

pub pat_Rest : (arg : Pat) (ty : Option TsPart) (r : Range) → bound_names (vPat.Rest arg ty r) ≡ bound_names arg
unfolding bound_names prop_names
pat_Rest arg ty r =
    ap bound_names (sym (vPat.rolls-Rest arg ty r))
    ∙ fold-roll-Pat Names Names Names Names Names Names Names Names Names Names Names Names Names Names Names
    no_names no_names no_names no_names no_names in_prop in_pat no_names no_names no_names no_names no_names no_names
    no_names no_names (Pat-F.Pat::Rest arg ty r)

pub pat_Assign : (left : Pat) (right : Expr) (r : Range)
    → bound_names (vPat.Assign left right r) ≡ bound_names left
unfolding bound_names prop_names
pat_Assign left right r =
    ap bound_names (sym (vPat.rolls-Assign left right r))
    ∙ fold-roll-Pat Names Names Names Names Names Names Names Names Names Names Names Names Names Names Names
    no_names no_names no_names no_names no_names in_prop in_pat no_names no_names no_names no_names no_names no_names
    no_names no_names (Pat-F.Pat::Assign left right r)

pub pat_Expr : (e : Expr) → bound_names (vPat.Expr e) ≡ []
unfolding bound_names prop_names
pat_Expr e =
    ap bound_names (sym (vPat.rolls-Expr e))
    ∙ fold-roll-Pat Names Names Names Names Names Names Names Names Names Names Names Names Names Names Names
    no_names no_names no_names no_names no_names in_prop in_pat no_names no_names no_names no_names no_names no_names
    no_names no_names (Pat-F.Pat::Expr e)

-- ---- properties
pub prop_KeyValue : (computed : Bool) (key : Expr) (value : Pat) (r : Range)
    → prop_names (vProp.KeyValue computed key value r) ≡ bound_names value
unfolding bound_names prop_names
prop_KeyValue computed key value r =
    ap prop_names (sym (vProp.rolls-KeyValue computed key value r))
    ∙ fold-roll-ObjectPatProp Names Names Names Names Names Names Names Names Names Names Names Names Names Names Names
    no_names no_names no_names no_names no_names in_prop in_pat no_names no_names no_names no_names no_names no_names
    no_names no_names (ObjectPatProp-F.ObjectPatProp::KeyValue computed key value r)

pub prop_Assign : (key : Ident) (value : Option Expr) (r : Range)
    → prop_names (vProp.Assign key value r) ≡ key.sym ∷ []
unfolding bound_names prop_names
prop_Assign key value r =
    ap prop_names (sym (vProp.rolls-Assign key value r))
    ∙ fold-roll-ObjectPatProp Names Names Names Names Names Names Names Names Names Names Names Names Names Names Names
    no_names no_names no_names no_names no_names in_prop in_pat no_names no_names no_names no_names no_names no_names
    no_names no_names (ObjectPatProp-F.ObjectPatProp::Assign key value r)

pub prop_Rest : (arg : Pat) (r : Range) → prop_names (vProp.Rest arg r) ≡ bound_names arg
unfolding bound_names prop_names
prop_Rest arg r =
    ap prop_names (sym (vProp.rolls-Rest arg r))
    ∙ fold-roll-ObjectPatProp Names Names Names Names Names Names Names Names Names Names Names Names Names Names Names
    no_names no_names no_names no_names no_names in_prop in_pat no_names no_names no_names no_names no_names no_names
    no_names no_names (ObjectPatProp-F.ObjectPatProp::Rest arg r)
