-- What a token adds that is a name.
use Rattle.std.specs.Prelude.{List, [], ◌∷◌, ◌++◌, slice_range, Option, Some, None}
use Rattle.std.proofs.Common.{◌≡◌, ℕ, refl}
use Rattle.es_token.specs.declared.token.Token.{Token}
use Rattle.std.specs.Option.{option_map}
use Rattle.es_lowering.specs.Texts.{ident_of}
use Rattle.es_bound_names.specs.Names.{Names, ident_names}
use Rattle.es_bound_names.specs.Adds.{Adds}

pub adds_ident : (x : List ℕ) (t : Token) (old new : Names)
    → new ≡ old ++ slice_range x t.range.start t.range.end ∷ []
    → Adds ident_names old new (option_map (ident_of x) (Some t))
unfolding ident_of
adds_ident x t old new e = record { added = e }
