-- What is written of a pattern: what the rules have it to be in a type.
use Rattle.std.specs.Prelude.{◌≡◌, ℕ, Bool, false, List, [], ◌∷◌, Option, Some, None, map, IfSome}
use Rattle.base.specs.declared.range.Range.{Range}
use Rattle.es_token.specs.declared.token.Token.{Token}
use Rattle.es_ast.specs.declared.ts.leaf.Ident.{Ident}
use Rattle.es_ast.specs.declared.ts.ts.TsParamPat.{TsParamPat}
use Rattle.es_ast.specs.declared.ts.ts.TsParamPat.TheVariants as vTsPat
use Rattle.es_ast.specs.declared.ts.ts.TsPart.{TsPart}
use Rattle.es_ast.specs.declared.ts.ts.TsPatProp.{TsPatProp}
use Rattle.es_ast.specs.declared.ast.Expr.{out-Expr}
use Rattle.es_ast.specs.declared.ast.ObjectPatProp.{ObjectPatProp}
use Rattle.es_ast.specs.declared.ast.Pat.{Pat}
use Rattle.es_lowering.specs.Value.{Value, behind, as_group, turns, type_pat_at, type_prop_at}
use Rattle.es_lowering.specs.Texts.{ident_of}
use Rattle.es_lowering.specs.Expressions.{element_of, behind_element, elements}
use Rattle.es_lowering.specs.Functions.{Key}
use Rattle.es_lowering.specs.Lowering.{packed}
use Rattle.es_syntax.specs.Roles.{type_key_in, type_pat_in, type_name_in, type_prop_in}
use Rattle.es_changed.specs.declared.entry.ChangedEntry.{ChangedEntry}
use Rattle.es_changed.specs.Formed.{marked_name}
use Rattle.es_changed.specs.Shape.{Writes}
use Rattle.dts_rules.specs.Rules.{Env, some, pattern_key}
use Rattle.dts_rules.specs.Programs.{shown_pat, shown_pat_prop}
use Rattle.dts_draft.specs.Written.{IfThere, Puts, PutsAll, Gives}

-- a pattern as a pattern in a type, and a property of one, where it has a key
abbrev pub pattern : Env → Pat → TsParamPat
pattern env pat = (shown_pat env pat).pattern

module _ (x : List ℕ) (ts : List Token) where
  -- a name, which is the one that its token is
  pub record IsName (old new : List ChangedEntry) (t : Token) : Type 0 where
    pub value : Value
    pub writes : Writes x ts old new (value ∷ [])
    pub reads : type_pat_in value ≡ Some (vTsPat.Ident (ident_of x t))
    pub name : type_name_in value ≡ Some (ident_of x t)

module _ (env : Env) (x : List ℕ) (ts : List Token) where
  -- a key is written, or it has none that a type has
  abbrev pub IsKey : List ChangedEntry → List ChangedEntry → Bool → Option Key → Type 0
  IsKey old new wrote key =
      IfThere (λ (k : Key). Gives x ts type_key_in old new wrote (pattern_key env k.0 (out-Expr k.1))) key

  -- a pattern that ends there
  pub record IsPattern (old new : List ChangedEntry) (to : ℕ) (it : Pat) : Type 0 where
    pub value : Value
    pub writes : Writes x ts old new (value ∷ [])
    pub ends : behind value ≡ to
    pub is : type_pat_in value ≡ Some (pattern env it)

  -- one in brackets, which is no name
  pub record IsBracketed (old new : List ChangedEntry) (to : ℕ) (it : Pat) : Type 0 where
    pub inner : IsPattern old new to it
    pub unnamed : type_name_in inner.value ≡ None

  -- a pattern that may have `?` or a type behind it, over this range
  pub record IsMarked (old new : List ChangedEntry) (r : Range) (it : Bool → Option TsPart → Range → Pat) : Type 0 where
    pub value : Value
    pub written : TsParamPat
    pub writes : Writes x ts old new (value ∷ [])
    pub reads : type_pat_in value ≡ Some written
    pub is : (mark : Bool) (ty : Option TsPart)
        → marked_name x ts mark (type_name_in value) written ≡ pattern env (it mark ty r)

  -- the parts of an element that stands at this token, of which this is the group
  pub record IsElement (old new : List ChangedEntry) (at : ℕ) (g : Value) (it : Pat) : Type 0 where
    pub parts : List Value
    pub writes : Writes x ts old new parts
    pub ends : behind_element at (packed parts) ≡ behind_element at g
    pub is : element_of vTsPat.Hole type_pat_at ts at (packed parts) ≡ Some (pattern env it)

  -- the same in a turn
  pub record IsTurn (old new : List ChangedEntry) (at : ℕ) (g : Value) (it : Pat) : Type 0 where
    pub parts : List Value
    pub writes : Writes x ts old new (packed (packed parts ∷ []) ∷ [])
    pub ends : behind_element at (packed parts) ≡ behind_element at g
    pub is : element_of vTsPat.Hole type_pat_at ts at (packed parts) ≡ Some (pattern env it)

  -- elements, the first of which stands at this token
  pub record AreElements (old new : List ChangedEntry) (at : ℕ) (them : List Pat) : Type 0 where
    pub values : List Value
    pub writes : Writes x ts old new values
    pub are : elements vTsPat.Hole type_pat_at ts at (packed values) ≡ Some (map (pattern env) them)

  -- the same as one group
  pub record IsGroup (old new : List ChangedEntry) (at : ℕ) (them : List Pat) : Type 0 where
    pub value : Value
    pub writes : Writes x ts old new (value ∷ [])
    pub are : elements vTsPat.Hole type_pat_at ts at (as_group value) ≡ Some (map (pattern env) them)

  -- a property, in a turn or not
  abbrev pub IsProp : List ChangedEntry → List ChangedEntry → Bool → ObjectPatProp → Type 0
  IsProp old new wrote it = Gives x ts type_prop_in old new wrote (shown_pat_prop env it)

  abbrev pub IsPropTurn : List ChangedEntry → List ChangedEntry → Bool → ObjectPatProp → Type 0
  IsPropTurn old new wrote it = Gives x ts (λ v. type_prop_at (as_group v) 0) old new wrote (shown_pat_prop env it)

  abbrev pub AreProps : List ChangedEntry → List ChangedEntry → List ObjectPatProp → Type 0
  AreProps old new them =
      PutsAll x ts (λ v. type_prop_at (as_group v) 0) old new (some (map (shown_pat_prop env) them))

  -- the same as one group
  pub record IsPropGroup (old new : List ChangedEntry) (them : List ObjectPatProp) : Type 0 where
    pub value : Value
    pub writes : Writes x ts old new (value ∷ [])
    pub are : turns (λ turn. type_prop_at turn 0) (as_group value) ≡ Some (some (map (shown_pat_prop env) them))
