-- What an empty list says of a program.
use Rattle.std.specs.Prelude.{◌≡◌, ℕ, Bool, true, List, [], None, Contains, All, ◌⊎◌}
use Rattle.es_token.specs.declared.token.Token.{Token}
use Rattle.es_grammar.specs.declared.cst.tree.Cst.{Cst}
use Rattle.es_scopes.specs.Marks.{body_marks}
use Rattle.es_scopes.specs.Numbers.{Scope, Named, named_in, declares, spelled}
use Rattle.es_mentions.specs.Nodes.{nodes}
use Rattle.es_mentions.specs.Words.{is_allowed}
use Rattle.es_mentions.specs.Kinds.{is_closed, gone_of, reason_by}
use Rattle.es_mentions.specs.Mentions.{is_script_tree, living, events}

module _ (x : List ℕ) (ts : List Token) where
  -- a scope around the name declares its spelling
  pub record IsDeclared (names : List Named) (it : Named) : Type 0 where
    pub scope : Scope
    pub around : Contains it.around scope
    pub so : declares x ts names scope.number (spelled x ts it) ≡ true

  -- the names of the program that are left at run time, with the scopes around them
  abbrev pub names_left : Bool → Cst → List Named
  names_left strict tree = named_in [] 1 (living (events x ts strict tree) (body_marks ts tree))

  module _ (allowed : List (List ℕ)) (strict : Bool) where
    -- each name that is left is declared or allowed, and no node that is left is listed
    pub record IsQuiet (tree : Cst) : Type 0 where
      pub of_names : All (λ it. IsDeclared (names_left strict tree) it
          ⊎ (is_allowed x ts allowed (is_script_tree tree) it.token ≡ true)) (names_left strict tree)
      pub of_nodes : All (λ n. gone_of n ≡ None
          → reason_by x ts (is_script_tree tree) strict n.label n.parts ≡ None) (nodes (is_closed x ts) tree)
