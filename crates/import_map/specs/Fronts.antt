-- What a search for the fronts of a text may pass over.
use Rattle.std.specs.Prelude.{◌≡◌, ◌≤◌, ◌<◌, ◌⊎◌, ℕ, List, length, take, get_or}
use Rattle.std.specs.List.{AllByRecursion}
use Rattle.std.specs.Ordering.{nat_cmp}
use Rattle.std.specs.Cmp.Lexicographic.{slice_cmp}
use Rattle.std.specs.declared.cmp.Ordering.TheVariants.{Less, Equal, Greater}
use Rattle.import_map.specs.ImportMap.{Table}

-- no key that is a front of at most so many bytes has more than these
abbrev pub AreFrontsWithin : {V : Type 0} → List ℕ → ℕ → ℕ → Table V → Type 0
AreFrontsWithin text end most table =
    AllByRecursion (λ e. e.0 ≡ take (length e.0) text → length e.0 ≤ end → length e.0 ≤ most) table

-- a text isn't greater
abbrev pub IsUpTo : List ℕ → List ℕ → Type 0
IsUpTo x s = (slice_cmp nat_cmp x s ≡ Less) ⊎ (slice_cmp nat_cmp x s ≡ Equal)

-- the keys before one place aren't greater, and from another on they are
pub record IsCut {V : Type 0} (table : Table V) (s : List ℕ) (low high : ℕ) : Type 0 where
  pub fits : high ≤ length table
  pub upto : (k : ℕ) (d : List ℕ × V) → k < low → IsUpTo (get_or table k d).0 s
  pub above : (k : ℕ) (d : List ℕ × V) → high ≤ k → k < length table
      → slice_cmp nat_cmp (get_or table k d).0 s ≡ Greater

-- no front of both has more bytes
abbrev pub IsCommon : List ℕ → List ℕ → ℕ → Type 0
IsCommon one other most =
    (n : ℕ) → n ≤ length one → n ≤ length other → take n one ≡ take n other → n ≤ most
