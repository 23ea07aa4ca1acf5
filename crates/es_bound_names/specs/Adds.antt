-- What a walk adds to the names found before.
use Rattle.std.specs.Prelude.{◌≡◌, ◌++◌, List, ◌∷◌, Option, Some, IfSome}
use Rattle.es_ast.specs.declared.ast.VarDeclarator.{VarDeclarator}
use Rattle.es_lowering.specs.Value.{given}
use Rattle.es_bound_names.specs.Names.{Names}

-- where the part is there, its names stand behind those found before
pub record Adds {A : Type 0} (names : A → Names) (old new : Names) (part : Option A) : Type 0 where
  pub added : IfSome part (λ a. new ≡ old ++ names a)

-- a declarator and those behind it, where all are there
unfoldable pub decls_of : Option VarDeclarator → Option (List VarDeclarator) → Option (List VarDeclarator)
decls_of first others = given first (λ first. given others (λ others. Some (first ∷ others)))
