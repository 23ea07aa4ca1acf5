-- What is kept of the declarations of a program.
use Rattle.std.specs.Prelude.{◌≡◌, ℕ, ◌==◌, ◌&&◌, if◌then◌else◌, List, [], ◌∷◌, ◌++◌, map, Option, Some, None, slice_get, slice_range, bytes_eq}
use Rattle.std.specs.List.{filter}
use Rattle.es_token.specs.declared.token.Token.{Token}
use Rattle.es_variables.specs.declared.scope_analysis.kinds.ScopeKind.{ScopeKind}
use Rattle.es_variables.specs.declared.scope_analysis.kinds.Id.{Id}
use Rattle.es_variables.specs.declared.scope_analysis.kinds.Var.{Var}
use Rattle.es_variables.specs.scope_analysis.Events.{Events}
use Rattle.es_variables.specs.scope_analysis.Scope.{sym_of, declarations, named, var, or_else}
use Rattle.es_variables.specs.declared.ident.Ident.{Ident}
use Rattle.es_variables.specs.declared.scope.Scope.{Scope}
use Rattle.es_variables.specs.Numbers.{at_in}
use Rattle.es_variables.specs.Table.{ids_at, var_at, extra}

-- the names that are spelled so
abbrev pub spelled_so : List (Id × Var) → List ℕ → List Id
spelled_so found q = filter (λ id. bytes_eq id.sym q) (map (λ d. d.0) found)

-- look-ups find the last of these declarations, and all names that are spelled so
pub record Keeps (s : Scope) (found : List (Id × Var)) : Type 0 where
  pub vars : (id : Id) → var_at s.vars id.sym id.ctxt ≡ var found id
  pub ids : (q : List ℕ) → ids_at s.ids q ≡ spelled_so found q

-- one declaration more
pub record Adds (old : Scope) (id : Id) (v : Var) (new : Scope) : Type 0 where
  pub vars : (q : List ℕ) (n : ℕ)
      → var_at new.vars q n ≡ (if bytes_eq id.sym q && (id.ctxt == n) then Some v else var_at old.vars q n)
  pub ids : (q : List ℕ) → ids_at new.ids q ≡ ids_at old.ids q ++ extra id.sym id q

-- with the declarations that are left these are all
pub record Leaves (s : Scope) (left found : List (Id × Var)) : Type 0 where
  pub vars : (id : Id) → or_else (var left id) (var_at s.vars id.sym id.ctxt) ≡ var found id
  pub ids : (q : List ℕ) → ids_at s.ids q ++ spelled_so left q ≡ spelled_so found q

-- the declarations among the events that are left
abbrev pub left_in : List ℕ → List Token → List (ℕ × ℕ) → List ScopeKind → Events → List (Id × Var)
left_in x ts numbers path rest = named x ts numbers (declarations path rest)

-- ---- names where they stand
abbrev pub id_of_ident : Ident → Id
id_of_ident it = record { sym = it.sym.now; ctxt = it.ctxt }

-- the name that the token of this number is
pub record Names (x : List ℕ) (ts : List Token) (numbers : List ℕ) (at : ℕ) (it : Ident) : Type 0 where
  pub token : Token
  pub there : slice_get ts at ≡ Some token
  pub sym : it.sym.now ≡ slice_range x token.range.start token.range.end
  pub span : it.span ≡ token.range
  pub ctxt : it.ctxt ≡ at_in numbers at
