-- What holds of what may be there, where it is made of what may be there.
use Rattle.std.specs.Prelude.{Bool, true, false, Option, Some, None, option_map, if◌then◌else◌}
use Rattle.std.proofs.Common.{◌≡◌, refl}
use Rattle.es_lowering.specs.Value.{given}
use Rattle.es_law_sites.proofs.ranges.Cuts.{Opt}

pub given_fine : {A B : Type 0} (P : A → Type 0) (Q : B → Type 0) (o : Option A) (f : A → Option B) → Opt P o
    → ((a : A) → P a → Opt Q (f a)) → Opt Q (given o f)
given_fine P Q (Some a) f here next = next a here
given_fine P Q None f here next = tt

pub given_any : {A B : Type 0} (Q : B → Type 0) (o : Option A) (f : A → Option B) → ((a : A) → Opt Q (f a))
    → Opt Q (given o f)
given_any Q (Some a) f next = next a
given_any Q None f next = tt

pub map_fine : {A B : Type 0} (P : A → Type 0) (Q : B → Type 0) (o : Option A) (f : A → B) → Opt P o
    → ((a : A) → P a → Q (f a)) → Opt Q (option_map f o)
map_fine P Q (Some a) f here next = next a here
map_fine P Q None f here next = tt

pub map_any : {A B : Type 0} (Q : B → Type 0) (o : Option A) (f : A → B) → ((a : A) → Q (f a)) → Opt Q (option_map f o)
map_any Q (Some a) f next = next a
map_any Q None f next = tt

pub if_fine : {A : Type 0} (P : A → Type 0) (b : Bool) (o e : Option A) → (b ≡ true → Opt P o) → Opt P e
    → Opt P (if b then o else e)
if_fine P true o e there other = there refl
if_fine P false o e there other = other
