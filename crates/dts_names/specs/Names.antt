-- What is written of a name: the type that the rules have it to be.
use Rattle.std.specs.Prelude.{◌≡◌, ℕ, Bool, List, Option, Some, None, IfSome}
use Rattle.es_token.specs.declared.token.Token.{Token}
use Rattle.es_lowering.specs.Texts.{ident_of}
use Rattle.es_syntax.specs.Roles.{ts_type_in}
use Rattle.es_changed.specs.declared.entry.ChangedEntry.{ChangedEntry}
use Rattle.es_changed.specs.Formed.{made_symbol}
use Rattle.dts_rules.specs.Made.{if_true, named_type, typeof_name}
use Rattle.dts_rules.specs.Rules as rules
use Rattle.dts_rules.specs.Rules.{name_type}
use Rattle.dts_rules.specs.Sets.{Id, id_of, is_in}
use Rattle.dts_sets.specs.Ids.{Numbered, holds}
use Rattle.dts_draft.specs.Written.{Puts, Gives}
use Rattle.dts_names.specs.declared.env.Env.{Env}

-- what is known of a program's names is what the rules go by
pub record Knows (it : Env) (env : rules.Env) : Type 0 where
  pub numbers : Numbered it.tokens.now it.ids.now env.number
  pub unresolved : env.unresolved ≡ it.unresolved
  pub typeofs : (id : Id) → is_in env.sets.typeofs id ≡ holds it.known.now.typeofs id
  pub plain : (id : Id) → is_in env.sets.plain id ≡ holds it.known.now.plain id
  pub arrays : (id : Id) → is_in env.sets.arrays id ≡ holds it.known.now.arrays id
  pub names : (n : ℕ) → env.name n ≡ made_symbol n

module _ (x : List ℕ) (ts : List Token) where
  -- the name that a token is, as the name of a type, and `typeof` it
  abbrev pub IsNamed : List ChangedEntry → List ChangedEntry → Token → Type 0
  IsNamed old new t = Puts x ts ts_type_in old new (named_type (ident_of x t))

  abbrev pub IsTypeof : List ChangedEntry → List ChangedEntry → Token → Type 0
  IsTypeof old new t = Puts x ts ts_type_in old new (typeof_name (ident_of x t))

-- whether it is spelled so, and nothing declares it
abbrev pub IsCalled : rules.Env → List ℕ → List ℕ → Bool → Token → Type 0
IsCalled env x q b t = rules.is_called env q (ident_of x t) ≡ b

module _ (env : rules.Env) (x : List ℕ) (ts : List Token) where
  -- its type, where it has one
  abbrev pub IsNameType : Bool → List ChangedEntry → List ChangedEntry → Bool → Token → Type 0
  IsNameType literal old new wrote t = Gives x ts ts_type_in old new wrote (name_type env (ident_of x t) literal)

  -- `typeof` it, where it is an array
  abbrev pub IsArrayName : List ChangedEntry → List ChangedEntry → Bool → Token → Type 0
  IsArrayName old new wrote t =
      Gives x ts ts_type_in old new wrote
      (if_true (is_in env.sets.arrays (id_of env.number (ident_of x t))) (typeof_name (ident_of x t)))

  -- it, where it is a class without type parameters
  abbrev pub IsClassName : List ChangedEntry → List ChangedEntry → Bool → Token → Type 0
  IsClassName old new wrote t =
      Gives x ts ts_type_in old new wrote
      (if_true (is_in env.sets.plain (id_of env.number (ident_of x t))) (named_type (ident_of x t)))
