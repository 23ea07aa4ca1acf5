-- What is told of parts that may be there, one after the other.
use Rattle.std.specs.Prelude.{List, [], ◌∷◌, ◌++◌, Option, Some, None, option_map, IfSome}
use Rattle.std.specs.List.{flat_map}
use Rattle.std.proofs.Common.{◌≡◌, refl, sym, ap, ◌∙◌}
use Rattle.std.proofs.lemmas.List.{append-nil, append_assoc}
use Rattle.es_lowering.specs.Value.{given}
use Rattle.cjs_facts.specs.Facts.{Facts}
use Rattle.cjs_table.specs.Met.{Told, both}

-- where a part is there, these are its facts
pub record Sees {A : Type 0} (f : A → Facts) (part : Option A) (told : Told) : Type 0 where
  pub sees : IfSome part (λ a. told ≡ Some (f a))

pub record AddsOne {A : Type 0} (f : A → Facts) (before : Facts) (told : Told) (a : A) : Type 0 where
  pub facts : Facts
  pub is : told ≡ Some facts
  pub all : f a ≡ before ++ facts

-- where a part is there, these are its facts after others
pub record Adds {A : Type 0} (f : A → Facts) (before : Facts) (part : Option A) (told : Told) : Type 0 where
  pub adds : IfSome part (λ a. AddsOne f before told a)

-- ---- one after the other
pub both_none : (m : Told) → both m (Some []) ≡ m
both_none None = refl
both_none (Some a) = ap Some (append-nil a)

pub none_both : (m : Told) → both (Some []) m ≡ m
none_both None = refl
none_both (Some a) = refl

pub both_assoc : (a b c : Told) → both (both a b) c ≡ both a (both b c)
both_assoc None b c = refl
both_assoc (Some a) None c = refl
both_assoc (Some a) (Some b) None = refl
both_assoc (Some a) (Some b) (Some c) = ap Some (append_assoc a b c)

pub both_told : (m n : Told) (a b : Facts) → m ≡ Some a → n ≡ Some b → both m n ≡ Some (a ++ b)
both_told m n a b e f = ap (λ (z : Told). both z n) e ∙ ap (λ (z : Told). both (Some a) z) f

pub moved : {A : Type 0} (f : A → Facts) (o : Option A) (m n : Told) → m ≡ n → Sees f o n → Sees f o m
moved f None m n e s = record { sees = tt }
moved f (Some a) m n e s = record { sees = e ∙ s.sees }

-- nothing but what was there before
pub ends : {A : Type 0} {f : A → Facts} {before : Facts} (a : A) → f a ≡ before → Adds f before (Some a) (Some [])
ends {before = before} a e = record { adds = record { facts = []; is = refl; all = e ∙ sym (append-nil before) } }

-- after no others
pub alone : {A : Type 0} {f : A → Facts} (o : Option A) {m : Told} → Adds f [] o m → Sees f o m
alone None s = record { sees = tt }
alone (Some a) s = record { sees = s.adds.is ∙ ap Some (sym s.adds.all) }

-- a part that has no facts
pub past : {A B : Type 0} {f : A → Facts} {before : Facts} {m : Told} (o : Option B) (k : B → Option A)
    → ((b : B) → Adds f before (k b) m) → Adds f before (given o k) m
past None k s = record { adds = tt }
past (Some b) k s = s b

-- a part that has some
pub also : {A B : Type 0} {f : A → Facts} {g : B → Facts} {before : Facts} {m n : Told} (o : Option B)
    (k : B → Option A) → Sees g o m → ((b : B) → Adds f (before ++ g b) (k b) n) → Adds f before (given o k) (both m n)
also None k s t = record { adds = tt }
also {f = f} {g = g} {before = before} {m = m} {n = n} (Some b) k s t = go (k b) (t b)
  where
    go : (o : Option _) → Adds f (before ++ g b) o n → Adds f before o (both m n)
    go None t = record { adds = tt }
    go (Some a) t = record {
      adds = record {
        facts = g b ++ t.adds.facts;
        is = both_told m n (g b) t.adds.facts s.sees t.adds.is;
        all = t.adds.all ∙ append_assoc before (g b) t.adds.facts;
      };
    }

pub adds_moved : {A : Type 0} (f : A → Facts) (before : Facts) (o : Option A) (m n : Told) → m ≡ n
    → Adds f before o n → Adds f before o m
adds_moved f before None m n e s = record { adds = tt }
adds_moved f before (Some a) m n e s = record {
  adds = record { facts = s.adds.facts; is = e ∙ s.adds.is; all = s.adds.all };
}

-- the last part
pub also_mapped : {A B : Type 0} {f : A → Facts} {g : B → Facts} {before : Facts} {m : Told} (o : Option B)
    (make : B → A) → Sees g o m → ((b : B) → f (make b) ≡ before ++ g b)
    → Adds f before (option_map make o) (both m (Some []))
also_mapped None make s same = record { adds = tt }
also_mapped {g = g} {m = m} (Some b) make s same = record {
  adds = record { facts = g b; is = both_none m ∙ s.sees; all = same b };
}

-- a part, and those after it
pub more_told : {A : Type 0} (f : A → Facts) (a : Option A) (xs : Option (List A)) (m n : Told) → Sees f a m
    → Sees (flat_map f) xs n → Sees (flat_map f) (given a (λ a. given xs (λ rest. Some (a ∷ rest)))) (both m n)
more_told f None xs m n s t = record { sees = tt }
more_told f (Some a) None m n s t = record { sees = tt }
more_told f (Some a) (Some xs) m n s t = record { sees = both_told m n (f a) (flat_map f xs) s.sees t.sees }

-- no others after it
pub single : {A : Type 0} {f : A → Facts} (o : Option A) (m : Told) → Sees f o m → Sees f o (both m (Some []))
single {f = f} o m s = moved f o (both m (Some [])) m (both_none m) s

-- a node made of one part
pub mapped : {A B : Type 0} {f : A → Facts} {g : B → Facts} {m : Told} (make : B → A) → ((b : B) → f (make b) ≡ g b)
    → (o : Option B) → Sees g o m → Sees f (option_map make o) m
mapped make same None s = record { sees = tt }
mapped make same (Some b) s = record { sees = s.sees ∙ ap Some (sym (same b)) }

-- a node made of what has no facts
pub quiet : {A B : Type 0} {f : A → Facts} (make : B → A) → ((b : B) → f (make b) ≡ []) → (o : Option B)
    → Sees f (option_map make o) (Some [])
quiet make same None = record { sees = tt }
quiet make same (Some b) = record { sees = ap Some (sym (same b)) }

pub silent : {A : Type 0} {f : A → Facts} (a : A) → f a ≡ [] → Sees f (Some a) (Some [])
silent a e = record { sees = ap Some (sym e) }

pub unseen : {A B : Type 0} {f : A → Facts} (make : B → A) → ((b : B) → f (make b) ≡ []) → (o : Option B)
    → Sees f (given o (λ b. Some (make b))) (Some [])
unseen make same None = record { sees = tt }
unseen make same (Some b) = record { sees = ap Some (sym (same b)) }

-- a further part without facts
pub skipped : {A B : Type 0} {f : A → Facts} {m : Told} (o : Option B) (k : B → Option A)
    → ((b : B) → Sees f (k b) m) → Sees f (given o k) m
skipped None k s = record { sees = tt }
skipped (Some b) k s = s b
