-- What is told of parts that may be there, one after the other.
use Rattle.std.specs.Prelude.{List, [], ◌∷◌, Option, Some, None, option_map, IfSome}
use Rattle.std.proofs.Common.{◌≡◌, refl, sym, ap, ◌∙◌}
use Rattle.dts_overloads.proofs.Laws.{or_none, or_assoc}
use Rattle.es_lowering.specs.Value.{given}
use Rattle.dts_overloads.specs.Among.{none, ◌∪◌, all_of, Among}
use Rattle.dts_overloads.specs.Met.{Told, both}

-- where a part is there, these are its ranges
pub record Sees {A : Type 0} (f : A → Among) (part : Option A) (told : Told) : Type 0 where
  pub sees : IfSome part (λ a. told ≡ Some (f a))

pub record AddsOne {A : Type 0} (f : A → Among) (before : Among) (told : Told) (a : A) : Type 0 where
  pub among : Among
  pub is : told ≡ Some among
  pub all : f a ≡ before ∪ among

-- where a part is there, these are its ranges after others
pub record Adds {A : Type 0} (f : A → Among) (before : Among) (part : Option A) (told : Told) : Type 0 where
  pub adds : IfSome part (λ a. AddsOne f before told a)

-- ---- one after the other
pub both_none : (m : Told) → both m (Some none) ≡ m
both_none None = refl
both_none (Some a) = ap Some (or_none a)

pub none_both : (m : Told) → both (Some none) m ≡ m
none_both None = refl
none_both (Some a) = refl

pub both_assoc : (a b c : Told) → both (both a b) c ≡ both a (both b c)
both_assoc None b c = refl
both_assoc (Some a) None c = refl
both_assoc (Some a) (Some b) None = refl
both_assoc (Some a) (Some b) (Some c) = ap Some (or_assoc a b c)

pub both_told : (m n : Told) (a b : Among) → m ≡ Some a → n ≡ Some b → both m n ≡ Some (a ∪ b)
both_told m n a b e f = ap (λ (z : Told). both z n) e ∙ ap (λ (z : Told). both (Some a) z) f

pub moved : {A : Type 0} (f : A → Among) (o : Option A) (m n : Told) → m ≡ n → Sees f o n → Sees f o m
moved f None m n e s = record { sees = tt }
moved f (Some a) m n e s = record { sees = e ∙ s.sees }

-- nothing but what was there before
pub ends : {A : Type 0} {f : A → Among} {before : Among} (a : A) → f a ≡ before → Adds f before (Some a) (Some none)
ends {before = before} a e = record { adds = record { among = none; is = refl; all = e ∙ sym (or_none before) } }

-- after no others
pub alone : {A : Type 0} {f : A → Among} (o : Option A) {m : Told} → Adds f none o m → Sees f o m
alone None s = record { sees = tt }
alone (Some a) s = record { sees = s.adds.is ∙ ap Some (sym s.adds.all) }

-- a part that has no ranges
pub past : {A B : Type 0} {f : A → Among} {before : Among} {m : Told} (o : Option B) (k : B → Option A)
    → ((b : B) → Adds f before (k b) m) → Adds f before (given o k) m
past None k s = record { adds = tt }
past (Some b) k s = s b

-- a part that has some
pub also : {A B : Type 0} {f : A → Among} {g : B → Among} {before : Among} {m n : Told} (o : Option B)
    (k : B → Option A) → Sees g o m → ((b : B) → Adds f (before ∪ g b) (k b) n) → Adds f before (given o k) (both m n)
also None k s t = record { adds = tt }
also {f = f} {g = g} {before = before} {m = m} {n = n} (Some b) k s t = go (k b) (t b)
  where
    go : (o : Option _) → Adds f (before ∪ g b) o n → Adds f before o (both m n)
    go None t = record { adds = tt }
    go (Some a) t = record {
      adds = record {
        among = g b ∪ t.adds.among;
        is = both_told m n (g b) t.adds.among s.sees t.adds.is;
        all = t.adds.all ∙ or_assoc before (g b) t.adds.among;
      };
    }

pub adds_moved : {A : Type 0} (f : A → Among) (before : Among) (o : Option A) (m n : Told) → m ≡ n
    → Adds f before o n → Adds f before o m
adds_moved f before None m n e s = record { adds = tt }
adds_moved f before (Some a) m n e s = record {
  adds = record { among = s.adds.among; is = e ∙ s.adds.is; all = s.adds.all };
}

-- the last part
pub also_mapped : {A B : Type 0} {f : A → Among} {g : B → Among} {before : Among} {m : Told} (o : Option B)
    (make : B → A) → Sees g o m → ((b : B) → f (make b) ≡ before ∪ g b)
    → Adds f before (option_map make o) (both m (Some none))
also_mapped None make s same = record { adds = tt }
also_mapped {g = g} {m = m} (Some b) make s same = record {
  adds = record { among = g b; is = both_none m ∙ s.sees; all = same b };
}

-- a part, and those after it
pub more_told : {A : Type 0} (f : A → Among) (a : Option A) (xs : Option (List A)) (m n : Told) → Sees f a m
    → Sees (all_of f) xs n → Sees (all_of f) (given a (λ a. given xs (λ rest. Some (a ∷ rest)))) (both m n)
more_told f None xs m n s t = record { sees = tt }
more_told f (Some a) None m n s t = record { sees = tt }
more_told f (Some a) (Some xs) m n s t = record { sees = both_told m n (f a) (all_of f xs) s.sees t.sees }

-- no others after it
pub single : {A : Type 0} {f : A → Among} (o : Option A) (m : Told) → Sees f o m → Sees f o (both m (Some none))
single {f = f} o m s = moved f o (both m (Some none)) m (both_none m) s

-- a node made of one part
pub mapped : {A B : Type 0} {f : A → Among} {g : B → Among} {m : Told} (make : B → A) → ((b : B) → f (make b) ≡ g b)
    → (o : Option B) → Sees g o m → Sees f (option_map make o) m
mapped make same None s = record { sees = tt }
mapped make same (Some b) s = record { sees = s.sees ∙ ap Some (sym (same b)) }

-- a node made of what has no ranges
pub quiet : {A B : Type 0} {f : A → Among} (make : B → A) → ((b : B) → f (make b) ≡ none) → (o : Option B)
    → Sees f (option_map make o) (Some none)
quiet make same None = record { sees = tt }
quiet make same (Some b) = record { sees = ap Some (sym (same b)) }

pub silent : {A : Type 0} {f : A → Among} (a : A) → f a ≡ none → Sees f (Some a) (Some none)
silent a e = record { sees = ap Some (sym e) }

pub unseen : {A B : Type 0} {f : A → Among} (make : B → A) → ((b : B) → f (make b) ≡ none) → (o : Option B)
    → Sees f (given o (λ b. Some (make b))) (Some none)
unseen make same None = record { sees = tt }
unseen make same (Some b) = record { sees = ap Some (sym (same b)) }

-- a further part without ranges
pub skipped : {A B : Type 0} {f : A → Among} {m : Told} (o : Option B) (k : B → Option A)
    → ((b : B) → Sees f (k b) m) → Sees f (given o k) m
skipped None k s = record { sees = tt }
skipped (Some b) k s = s b

-- ---- lists of a node, and what is in them
-- what is there, by itself
pub told_is : {A : Type 0} (f : A → Among) (o : Option A) → Sees f o (option_map f o)
told_is f None = record { sees = tt }
told_is f (Some a) = record { sees = refl }

pub joined : {A : Type 0} {f g h : A → Among} {m n : Told} (o : Option A) → Sees f o m → Sees g o n
    → ((a : A) → h a ≡ f a ∪ g a) → Sees h o (both m n)
joined None s t same = record { sees = tt }
joined {f = f} {g = g} {m = m} {n = n} (Some a) s t same = record {
  sees = both_told m n (f a) (g a) s.sees t.sees ∙ ap Some (sym (same a));
}

-- a node made of one list
pub list_ends : {A B : Type 0} {f : A → Among} (own : B → Among) {g : B → Among} {m : Told} (make : B → A)
    → ((b : B) → f (make b) ≡ own b ∪ g b) → (o : Option B) → Sees g o m
    → Sees f (given o (λ b. Some (make b))) (both (option_map own o) m)
list_ends own make same None s = record { sees = tt }
list_ends own {g = g} {m = m} make same (Some b) s = record {
  sees = both_told (Some (own b)) m (own b) (g b) refl s.sees ∙ ap Some (sym (same b));
}

pub list_mapped : {A B : Type 0} {f : A → Among} (own : B → Among) {g : B → Among} {m : Told} (make : B → A)
    → ((b : B) → f (make b) ≡ own b ∪ g b) → (o : Option B) → Sees g o m
    → Sees f (option_map make o) (both (option_map own o) m)
list_mapped own make same None s = record { sees = tt }
list_mapped own {g = g} {m = m} make same (Some b) s = record {
  sees = both_told (Some (own b)) m (own b) (g b) refl s.sees ∙ ap Some (sym (same b));
}

-- the list alone
pub kept : {A B : Type 0} {f : A → Among} {own : B → Among} (make : B → A) → ((b : B) → f (make b) ≡ own b)
    → (o : Option B) → Sees f (given o (λ b. Some (make b))) (option_map own o)
kept make same None = record { sees = tt }
kept make same (Some b) = record { sees = ap Some (sym (same b)) }

-- a part, and a list behind it
pub two_end : {A B C : Type 0} {f : C → Among} {first : A → Among} {own g : B → Among} {m0 m1 m2 : Told} (a : Option A)
    (b : Option B) (make : A → B → C) → Sees own b m0 → Sees first a m1 → Sees g b m2
    → ((a : A) (b : B) → f (make a b) ≡ own b ∪ (first a ∪ g b))
    → Sees f (given a (λ a. given b (λ b. Some (make a b)))) (both m0 (both m1 m2))
two_end None b make s t u same = record { sees = tt }
two_end (Some a) None make s t u same = record { sees = tt }
two_end {first = first} {own = own} {g = g} {m0 = m0} {m1 = m1} {m2 = m2} (Some a) (Some b) make s t u same = record {
  sees = both_told m0 (both m1 m2) (own b) (first a ∪ g b) s.sees
      (both_told m1 m2 (first a) (g b) t.sees u.sees)
      ∙ ap Some (sym (same a b));
}
