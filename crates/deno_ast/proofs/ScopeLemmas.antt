-- The numbers of a program's names, and its declarations, by its parts.
use Rattle.std.specs.Prelude.{◌≡◌, ◌≢◌, ℕ, true, List, Option, Some, None, MatchOption, slice_get}
use Rattle.std.proofs.Common.{sym, ap, ◌∙◌}
use Rattle.es_token.specs.declared.token.Token.{Token}
use Rattle.es_ast.specs.declared.ast.Program.{Program}
use Rattle.es_syntax.specs.declared.entry.Entry.{Entry}
use Rattle.es_syntax.specs.Trees.{first_tree, trees}
use Rattle.es_program.specs.Owned.{Owned}
use Rattle.es_scopes.specs.Numbers.{ids}
use Rattle.es_variables.specs.scope_analysis.Scope.{declared}
use Rattle.es_variables.specs.declared.scope.Scope.{Scope}
use Rattle.es_variables.specs.declared.ident.Ident.{Ident}
use Rattle.es_variables.specs.Numbers.{AreNumbers}
use Rattle.es_variables.specs.Kept.{Keeps, Names}
use Rattle.deno_ast.specs.Scopes.{AreIds, AreScoped, Declares, HasNoToken, NamesIn}

module _ (p : Owned Program) (x : List ℕ) (ts : List Token) (e : x ≡ p.text) (f : ts ≡ p.tokens) where
  no_token : (at : ℕ) → slice_get ts at ≡ None → HasNoToken p at
  no_token at none = record { none = ap (λ (l : List Token). slice_get l at) (sym f) ∙ none }

  names_in : (numbers : List ℕ) (at : ℕ) (it : Ident) → Names x ts numbers at it → NamesIn p numbers at it
  names_in numbers at it names = record { names = rw (← e, ← f) names }

  pub ident_told : (numbers : List ℕ) (at : ℕ) (o : Option Ident)
      → MatchOption o (slice_get ts at ≡ None) (Names x ts numbers at)
      → MatchOption o (HasNoToken p at) (NamesIn p numbers at)
  ident_told numbers at None none = no_token at none
  ident_told numbers at (Some it) names = names_in numbers at it names

  module _ (es : List Entry) (g : es ≡ p.entries) where
    pub are_ids : (numbers : List ℕ) → AreNumbers numbers (ids x ts (first_tree (trees es))) → AreIds p numbers
    are_ids numbers are = record { are = rw (← e, ← f, ← g) are }

    pub declares : (scope : Scope) → Keeps scope (declared x ts (first_tree (trees es))) → Declares p scope
    declares scope keeps = record { keeps = rw (← e, ← f, ← g) keeps }

-- where scopes were analysed, their numbers are there
pub scopes_kept : (p : Owned Program) (scopes : Option (List ℕ)) → AreScoped true p scopes → scopes ≢ None
scopes_kept p (Some numbers) are e = let bad : ⊥ = cc in absurd bad
scopes_kept p None are e = are
