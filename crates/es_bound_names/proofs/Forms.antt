-- What a pattern adds, from what its parts add.
use Rattle.std.specs.Prelude.{ℕ, ◌+◌, Bool, false, List, [], ◌∷◌, ◌++◌, Option, Some, None}
use Rattle.std.specs.Option.{option_map}
use Rattle.std.specs.List.{flat_map}
use Rattle.std.proofs.Common.{◌≡◌, refl, sym, ap, ◌∙◌}
use Rattle.std.proofs.lemmas.List.{append-nil}
use Rattle.base.specs.declared.range.Range.{Range}
use Rattle.es_token.specs.declared.token.Token.{Token}
use Rattle.es_ast.specs.declared.ts.leaf.Ident.{Ident}
use Rattle.es_ast.specs.declared.ts.ts.TsPart.{TsPart}
use Rattle.es_ast.specs.declared.ast.Expr.{Expr}
use Rattle.es_ast.specs.declared.ast.ObjectPatProp.{ObjectPatProp}
use Rattle.es_ast.specs.declared.ast.Pat.{Pat}
use Rattle.es_ast.specs.declared.ast.Pat.TheVariants as vPat
use Rattle.es_ast.specs.declared.ast.ObjectPatProp.TheVariants as vProp
use Rattle.es_lowering.specs.Value.{Value, given, turns, optional, pat_at, pat_prop_at, expr_at}
use Rattle.es_lowering.specs.Texts.{ident_of}
use Rattle.es_lowering.specs.Expressions.{elements}
use Rattle.es_lowering.specs.Functions.{Key}
use Rattle.es_lowering.specs.Patterns.{ident_pat, with_default}
use Rattle.es_lowering.specs.TypeTexts.{marked}
use Rattle.es_view_expressions.specs.pattern.Pat as pat
use Rattle.es_view_expressions.specs.pattern.Marked as m
use Rattle.es_view_expressions.specs.pattern.PatProp as prop
use Rattle.es_bound_names.specs.Names.{Names, ident_names, bound_names, prop_names}
use Rattle.es_bound_names.specs.Adds.{Adds}
use Rattle.es_bound_names.proofs.Equations.{pat_Ident, pat_Array, pat_Object, pat_Rest, pat_Assign, pat_Expr, prop_KeyValue, prop_Assign, prop_Rest}

-- names that are those of a part
same : (old : Names) {new a b : Names} → new ≡ old ++ a → b ≡ a → new ≡ old ++ b
same old e is = e ∙ ap (λ m. old ++ m) (sym is)

-- ---- patterns
pub adds_name : (x : List ℕ) (o : Option Token) (old new : Names)
    → Adds ident_names old new (option_map (ident_of x) o) → Adds bound_names old new (pat.ident x o)
unfolding pat.ident
adds_name x None old new a = record { added = tt }
adds_name x (Some t) old new a = record { added = same old a.added (pat_Ident (ident_of x t) None t.range) }

pub adds_array : (ts : List Token) (r : Range) (from : ℕ) (v : Value) (old new : Names)
    → Adds (flat_map bound_names) old new (elements vPat.Hole pat_at ts (from + 1) v)
    → Adds bound_names old new (pat.array ts r from v)
unfolding pat.array
adds_array ts r from v old new a = go (elements vPat.Hole pat_at ts (from + 1) v) a
  where
    go : (o : Option (List Pat)) → Adds (flat_map bound_names) old new o
        → Adds bound_names old new (option_map (λ elems. vPat.Array elems false None r) o)
    go None a = record { added = tt }
    go (Some elems) a = record { added = same old a.added (pat_Array elems false None r) }

pub adds_object : (r : Range) (v : Value) (old new : Names)
    → Adds (flat_map prop_names) old new (turns (λ turn. pat_prop_at turn 0) v)
    → Adds bound_names old new (pat.object r v)
unfolding pat.object
adds_object r v old new a = go (turns (λ turn. pat_prop_at turn 0) v) a
  where
    go : (o : Option (List ObjectPatProp)) → Adds (flat_map prop_names) old new o
        → Adds bound_names old new (option_map (λ props. vPat.Object props false None r) o)
    go None a = record { added = tt }
    go (Some props) a = record { added = same old a.added (pat_Object props false None r) }

pub adds_rest : (r : Range) (o : Option Pat) (old new : Names) → Adds bound_names old new o
    → Adds bound_names old new (pat.rest r o)
unfolding pat.rest
adds_rest r None old new a = record { added = tt }
adds_rest r (Some arg) old new a = record { added = same old a.added (pat_Rest arg None r) }

pub adds_default : (r : Range) (o : Option Pat) (e : Option Expr) (old new : Names) → Adds bound_names old new o
    → Adds bound_names old new (pat.default r o e)
unfolding pat.default
adds_default r None e old new a = record { added = tt }
adds_default r (Some left) None old new a = record { added = tt }
adds_default r (Some left) (Some right) old new a = record { added = same old a.added (pat_Assign left right r) }

pub adds_target : (e : Option Expr) (old : Names) → Adds bound_names old old (pat.target e)
unfolding pat.target
adds_target None old = record { added = tt }
adds_target (Some e) old = record { added = sym (ap (λ m. old ++ m) (pat_Expr e) ∙ append-nil old) }

-- ---- patterns that may have `?` or a type behind them
module _ (mark : Bool) (ty : Option TsPart) (r : Range) where
  pub adds_marked_name : (x : List ℕ) (o : Option Token) (old new : Names)
      → Adds ident_names old new (option_map (ident_of x) o)
      → Adds (λ (pat : m.AMarked). bound_names (pat mark ty r)) old new (m.ident x o)
  unfolding m.ident
  adds_marked_name x None old new a = record { added = tt }
  adds_marked_name x (Some t) old new a = record {
    added = same old a.added (pat_Ident (marked mark (ident_of x t)) ty r);
  }

  pub adds_marked_array : (ts : List Token) (from : ℕ) (v : Value) (old new : Names)
      → Adds (flat_map bound_names) old new (elements vPat.Hole pat_at ts (from + 1) v)
      → Adds (λ (pat : m.AMarked). bound_names (pat mark ty r)) old new (m.array ts from v)
  unfolding m.array
  adds_marked_array ts from v old new a = go (elements vPat.Hole pat_at ts (from + 1) v) a
    where
      go : (o : Option (List Pat)) → Adds (flat_map bound_names) old new o
          → Adds (λ (pat : m.AMarked). bound_names (pat mark ty r)) old new
          (option_map (λ elems mark ty r. vPat.Array elems mark ty r) o)
      go None a = record { added = tt }
      go (Some elems) a = record { added = same old a.added (pat_Array elems mark ty r) }

  pub adds_marked_object : (v : Value) (old new : Names)
      → Adds (flat_map prop_names) old new (turns (λ turn. pat_prop_at turn 0) v)
      → Adds (λ (pat : m.AMarked). bound_names (pat mark ty r)) old new (m.object v)
  unfolding m.object
  adds_marked_object v old new a = go (turns (λ turn. pat_prop_at turn 0) v) a
    where
      go : (o : Option (List ObjectPatProp)) → Adds (flat_map prop_names) old new o
          → Adds (λ (pat : m.AMarked). bound_names (pat mark ty r)) old new
          (option_map (λ props mark ty r. vPat.Object props mark ty r) o)
      go None a = record { added = tt }
      go (Some props) a = record { added = same old a.added (pat_Object props mark ty r) }

-- ---- properties
pub adds_rest_prop : (r : Range) (o : Option Pat) (old new : Names) → Adds bound_names old new o
    → Adds prop_names old new (prop.rest r o)
unfolding prop.rest
adds_rest_prop r None old new a = record { added = tt }
adds_rest_prop r (Some arg) old new a = record { added = same old a.added (prop_Rest arg r) }

default_names : (span : Range) (pat : Pat) (value : Option Expr)
    → bound_names (with_default span pat value) ≡ bound_names pat
default_names span pat None = refl
default_names span pat (Some value) = pat_Assign pat value span

pub adds_key_value : (span r : Range) (key : Option Key) (o : Option Pat) (v : Value) (old new : Names)
    → Adds bound_names old new o → Adds prop_names old new (prop.key_value span r key o v)
unfolding prop.key_value
adds_key_value span r None o v old new a = record { added = tt }
adds_key_value span r (Some key) None v old new a = record { added = tt }
adds_key_value span r (Some key) (Some pat) v old new a = go (optional expr_at v)
  where
    go : (value : Option (Option Expr)) → Adds prop_names old new (given value (λ value.
        Some (vProp.KeyValue key.0 key.1 (with_default span pat value) r)))
    go None = record { added = tt }
    go (Some value) = record {
      added = same old a.added
          (prop_KeyValue key.0 key.1 (with_default span pat value) r ∙ default_names span pat value);
    }

pub adds_shorthand : (x : List ℕ) (r : Range) (o : Option Token) (v : Value) (old new : Names)
    → Adds ident_names old new (option_map (ident_of x) o) → Adds prop_names old new (prop.shorthand x r o v)
unfolding prop.shorthand
adds_shorthand x r None v old new a = record { added = tt }
adds_shorthand x r (Some t) v old new a = go (optional expr_at v)
  where
    go : (value : Option (Option Expr)) → Adds prop_names old new (given value (λ value.
        Some (vProp.Assign (ident_of x t) value r)))
    go None = record { added = tt }
    go (Some value) = record { added = same old a.added (prop_Assign (ident_of x t) value r) }
