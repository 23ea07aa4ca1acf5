-- Scope numbers of a program, and what it declares.
use Rattle.std.specs.Prelude.{◌≡◌, ℕ, Bool, true, false, List, Option, Some, None, slice_get}
use Rattle.es_ast.specs.declared.ast.Program.{Program}
use Rattle.es_syntax.specs.Trees.{first_tree, trees}
use Rattle.es_program.specs.Owned.{Owned}
use Rattle.es_scopes.specs.Numbers.{ids}
use Rattle.es_variables.specs.scope_analysis.Scope.{declared}
use Rattle.es_variables.specs.declared.scope.Scope.{Scope}
use Rattle.es_variables.specs.declared.ident.Ident.{Ident}
use Rattle.es_variables.specs.Numbers.{AreNumbers}
use Rattle.es_variables.specs.Kept.{Keeps, Names}

-- these are the numbers of the program's names, by their tokens
pub record AreIds (p : Owned Program) (numbers : List ℕ) : Type 0 where
  pub are : AreNumbers numbers (ids p.text p.tokens (first_tree (trees p.entries)))

-- this is what the program declares
pub record Declares (p : Owned Program) (scope : Scope) : Type 0 where
  pub keeps : Keeps scope (declared p.text p.tokens (first_tree (trees p.entries)))

-- the name that the program's token of this number is, by these numbers
pub record NamesIn (p : Owned Program) (numbers : List ℕ) (at : ℕ) (it : Ident) : Type 0 where
  pub names : Names p.text p.tokens numbers at it

-- the program has no token of this number
pub record HasNoToken (p : Owned Program) (at : ℕ) : Type 0 where
  pub none : slice_get p.tokens at ≡ None

-- the numbers are there where scopes were to be analysed
abbrev pub AreScoped : Bool → Owned Program → Option (List ℕ) → Type 0
AreScoped true p (Some numbers) = AreIds p numbers
AreScoped false p None = Unit {0}
AreScoped _ p _ = ⊥
