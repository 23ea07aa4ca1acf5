-- What a program declares, and how its names are looked up: the last declaration of a name counts.
use Rattle.std.specs.Prelude.{ℕ, ◌==◌, Bool, true, false, ◌&&◌, if◌then◌else◌, List, [], ◌∷◌, ◌++◌, map, Option, Some, None, slice_get, bytes_eq}
use Rattle.std.specs.List.{filter}
use Rattle.es_token.specs.declared.token.Token.{Token}
use Rattle.es_lowering.specs.Texts.{ident_of}
use Rattle.es_grammar.specs.declared.cst.tree.Cst.{Cst}
use Rattle.es_scopes.specs.Numbers.{ids, number_at}
use Rattle.es_variables.specs.declared.scope_analysis.kinds.ScopeKind.{ScopeKind}
use Rattle.es_variables.specs.declared.scope_analysis.kinds.Id.{Id}
use Rattle.es_variables.specs.declared.scope_analysis.kinds.Var.{Var}
use Rattle.es_variables.specs.declared.scope_analysis.steps.Event.TheVariants as event
use Rattle.es_variables.specs.scope_analysis.Events.{Events, events}

-- the path without its last part
abbrev pub shorter : List ScopeKind → List ScopeKind
shorter [] = []
shorter (s ∷ []) = []
shorter (s ∷ t ∷ path) = s ∷ shorter (t ∷ path)

-- the declarations among these events, each with its token
abbrev pub declarations : List ScopeKind → Events → List (ℕ × Var)
declarations path [] = []
declarations path (event.Enter scope ∷ rest) = declarations (path ++ scope ∷ []) rest
declarations path (event.Leave ∷ rest) = declarations (shorter path) rest
declarations path (event.Declare kind token ∷ rest) =
    (token, record { path = path; kind = kind }) ∷ declarations path rest

module _ (x : List ℕ) (ts : List Token) where
  abbrev pub sym_of : Option Token → List ℕ
  sym_of (Some t) = (ident_of x t).sym
  sym_of None = []

  -- the name that a token is, by the numbers of names
  abbrev pub id_of : List (ℕ × ℕ) → ℕ → Id
  id_of numbers token = record { sym = sym_of (slice_get ts token); ctxt = number_at numbers token }

  abbrev pub named : List (ℕ × ℕ) → List (ℕ × Var) → List (Id × Var)
  named numbers found = map (λ d. (id_of numbers d.0, d.1)) found

  -- the declarations of a program, in the order of the walk
  unfoldable pub declared : Cst → List (Id × Var)
  declared tree = named (ids x ts tree) (declarations [] (events x ts tree))

-- ---- look-ups
abbrev pub same_id : Id → Id → Bool
same_id a b = bytes_eq a.sym b.sym && (a.ctxt == b.ctxt)

abbrev pub or_else : Option Var → Option Var → Option Var
or_else (Some v) other = Some v
or_else None other = other

-- the last declaration of this name
abbrev pub var : List (Id × Var) → Id → Option Var
var [] id = None
var (d ∷ declared) id = or_else (var declared id) (if same_id d.0 id then Some d.1 else None)

-- the names that are spelled so, once for each declaration; none where none is declared
abbrev pub some_of : List Id → Option (List Id)
some_of [] = None
some_of (id ∷ ids) = Some (id ∷ ids)

abbrev pub ids_with_symbol : List (Id × Var) → List ℕ → Option (List Id)
ids_with_symbol declared sym = some_of (filter (λ id. bytes_eq id.sym sym) (map (λ d. d.0) declared))

-- a name that is declared nowhere
abbrev pub is_global : List (Id × Var) → Id → Bool
is_global [] id = true
is_global (d ∷ declared) id = if same_id d.0 id then false else is_global declared id
