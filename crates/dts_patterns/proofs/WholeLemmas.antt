-- Patterns that may have `?` or a type behind them.
use Rattle.std.specs.Prelude.{ℕ, ◌+◌, Bool, true, false, List, [], ◌∷◌, Option, Some, None, option_map, map, slice_get}
use Rattle.std.proofs.Common.{◌≡◌, refl, sym, ap, subst, ◌∙◌}
use Rattle.base.specs.declared.range.Range.{Range}
use Rattle.es_token.specs.declared.token.Token.{Token}
use Rattle.es_ast.specs.declared.ts.leaf.Ident.{Ident}
use Rattle.es_ast.specs.declared.ts.ts.TsParamPat.{TsParamPat}
use Rattle.es_ast.specs.declared.ts.ts.TsParamPat.TheVariants as vTsPat
use Rattle.es_ast.specs.declared.ts.ts.TsPart.{TsPart}
use Rattle.es_ast.specs.declared.ast.ObjectPatProp.{ObjectPatProp}
use Rattle.es_ast.specs.declared.ast.Pat.{Pat}
use Rattle.es_ast.specs.declared.ast.Pat.TheVariants as vPat
use Rattle.es_lowering.specs.Value.{Value, turns, pat_at, pat_prop_at}
use Rattle.es_lowering.specs.Texts.{ident_of, span_of}
use Rattle.es_lowering.specs.TypeTexts.{marked}
use Rattle.es_lowering.specs.Expressions.{elements}
use Rattle.es_changed.specs.declared.entry.ChangedEntry.{ChangedEntry}
use Rattle.es_changed.specs.Formed.{marked_name}
use Rattle.es_changed.specs.Shape.{Writes}
use Rattle.es_changed.proofs.Written.{both_written}
use Rattle.es_view_expressions.specs.pattern.Pat as pat
use Rattle.es_view_expressions.specs.pattern.Marked as m
use Rattle.dts_rules.specs.Rules.{Env}
use Rattle.dts_draft.specs.Written.{IfThere}
use Rattle.dts_patterns.specs.Patterns.{pattern, IsName, IsBracketed, IsMarked}
use Rattle.dts_patterns.proofs.Equations.{pattern_Ident, pattern_Array, pattern_Object}

module _ (env : Env) (x : List ℕ) (ts : List Token) where
  -- a name says itself whether `?` stands behind it
  name_says : (id : Ident) (name : Option Ident) (ty : Option TsPart) (r : Range) (mark : Bool) → name ≡ Some id
      → id ≡ marked false id
      → marked_name x ts mark name (vTsPat.Ident id) ≡ pattern env (vPat.Ident (marked mark id) ty r)
  name_says id name ty r true e plain =
      ap (λ n. marked_name x ts true n (vTsPat.Ident id)) e ∙ sym (pattern_Ident env (marked true id) ty r)
  name_says id name ty r false e plain = ap vTsPat.Ident plain ∙ sym (pattern_Ident env (marked false id) ty r)

  plain_name : (t : Token) → ident_of x t ≡ marked false (ident_of x t)
  unfolding ident_of
  plain_name t = refl

  pub name_marked : {old new : List ChangedEntry} {o : Option Token} (r : Range) → IfThere (IsName x ts old new) o
      → IfThere (IsMarked env x ts old new r) (m.ident x o)
  unfolding m.ident
  name_marked {old = old} {new = new} {o = None} r h = record { is = tt }
  name_marked {old = old} {new = new} {o = Some t} r h =
      let n : IsName x ts old new t = h.is in
      record {
        is = record {
          value = n.value;
          written = vTsPat.Ident (ident_of x t);
          writes = n.writes;
          reads = n.reads;
          is = λ mark ty. name_says (ident_of x t) _ ty r mark n.name (plain_name t);
        };
      }

  -- one in brackets is what it is, marked or not
  unmarked : (name : Option Ident) (it : TsParamPat) (mark : Bool) → name ≡ None → marked_name x ts mark name it ≡ it
  unmarked name it true e = ap (λ n. marked_name x ts true n it) e
  unmarked name it false e = refl

  bracketed : (old mid new : List ChangedEntry) (r : Range) (to : ℕ) (it : Pat)
      (f : Bool → Option TsPart → Range → Pat)
      → ((mark : Bool) (ty : Option TsPart) → pattern env it ≡ pattern env (f mark ty r)) → Writes x ts old mid []
      → IsBracketed env x ts mid new to it → IsMarked env x ts old new r f
  bracketed old mid new r to it f same gone b = record {
    value = b.inner.value;
    written = pattern env it;
    writes = both_written x ts old mid new [] (b.inner.value ∷ []) gone b.inner.writes;
    reads = b.inner.is;
    is = λ mark ty. unmarked _ (pattern env it) mark b.unnamed ∙ same mark ty;
  }

  pub array_marked : {old mid new : List ChangedEntry} {to : ℕ} {r : Range} (from : ℕ) (v : Value)
      → Writes x ts old mid [] → IfThere (IsBracketed env x ts mid new to) (pat.array ts r from v)
      → IfThere (IsMarked env x ts old new r) (m.array ts from v)
  unfolding pat.array m.array
  array_marked {old = old} {mid = mid} {new = new} {to = to} {r = r} from v gone h =
      go (elements vPat.Hole pat_at ts (from + 1) v) h
    where
      go : (o : Option (List Pat))
          → IfThere (IsBracketed env x ts mid new to) (option_map (λ elems. vPat.Array elems false None r) o)
          → IfThere (IsMarked env x ts old new r) (option_map (λ elems mark ty r. vPat.Array elems mark ty r) o)
      go None h = record { is = tt }
      go (Some elems) h = record {
        is = bracketed old mid new r to (vPat.Array elems false None r) (λ mark ty r. vPat.Array elems mark ty r)
            (λ mark ty. pattern_Array env elems false None r ∙ sym (pattern_Array env elems mark ty r)) gone h.is;
      }

  pub object_marked : {old mid new : List ChangedEntry} {to : ℕ} {r : Range} (v : Value) → Writes x ts old mid []
      → IfThere (IsBracketed env x ts mid new to) (pat.object r v) → IfThere (IsMarked env x ts old new r) (m.object v)
  unfolding pat.object m.object
  object_marked {old = old} {mid = mid} {new = new} {to = to} {r = r} v gone h =
      go (turns (λ turn. pat_prop_at turn 0) v) h
    where
      go : (o : Option (List ObjectPatProp))
          → IfThere (IsBracketed env x ts mid new to) (option_map (λ props. vPat.Object props false None r) o)
          → IfThere (IsMarked env x ts old new r) (option_map (λ props mark ty r. vPat.Object props mark ty r) o)
      go None h = record { is = tt }
      go (Some props) h = record {
        is = bracketed old mid new r to (vPat.Object props false None r) (λ mark ty r. vPat.Object props mark ty r)
            (λ mark ty. pattern_Object env props false None r ∙ sym (pattern_Object env props mark ty r)) gone h.is;
      }

  -- where the first token of an array is that of its node
  pub array_at : {old mid new : List ChangedEntry} (from start to : ℕ) (v : Value) → from ≡ start
      → Writes x ts old mid []
      → IfThere (IsBracketed env x ts mid new to) (pat.array ts (span_of ts start to) start v)
      → IfThere (IsMarked env x ts old new (span_of ts start to)) (m.array ts from v)
  array_at {old = old} {mid = mid} {new = new} from start to v e gone h =
      subst (λ (n : ℕ). IfThere (IsMarked env x ts old new (span_of ts start to)) (m.array ts n v)) (sym e)
      (array_marked start v gone h)
