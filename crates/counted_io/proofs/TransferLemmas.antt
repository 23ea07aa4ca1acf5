-- What several reads or writes, one after the other, do to known bytes.
use Rattle.std.proofs.Common.{ℕ, ◌+◌, ◌≤◌, List, [], ◌++◌, length, length-append, arith, take, drop, sym, ◌∙◌, subst, Option, None, Some, Result, Ok, Err}
use Rattle.std.proofs.Math.Seq.{take-add}
use Rattle.std.proofs.lemmas.List.{take-append-drop, length-take}
use Rattle.std.proofs.KnownBytes.{Appends-trans, Consumes-trans}
use Rattle.std.specs.Io.KnownBytes.{Appends, Consumes, Keeps, ReadConsumes}
use Rattle.counted_io.specs.Transfer.{ReadAtMost, TookPart, Grew}

-- bytes that were taken stay taken over a write that fails
pub Appends-kept : (a b c : Option (List ℕ)) (bytes : List ℕ) → Appends a b bytes → Keeps b c → Appends a c bytes
Appends-kept None b c bytes took kept = tt
Appends-kept (Some x) None c bytes took kept = absurd took
Appends-kept (Some x) (Some y) None bytes took kept = absurd kept
Appends-kept (Some x) (Some y) (Some z) bytes took kept = kept ∙ took

-- the next part of a text was taken behind its front
pub Appends-more : (a b c : Option (List ℕ)) (text : List ℕ) (at n : ℕ) → Appends a b (take at text)
    → Appends b c (take n (drop at text))
    → Appends a c (take (at + n) text)
Appends-more a b c text at n front part =
    subst (Appends a c) (sym (take-add at n text))
    (Appends-trans a b c (take at text) (take n (drop at text)) front part)

-- the front of a text is a part of it
pub TookPart-front : (a b c : Option (List ℕ)) (text : List ℕ) (at : ℕ) → Appends a b (take at text) → Keeps b c
    → TookPart a c text
TookPart-front a b c text at took kept =
    (take at text, drop at text, sym (take-append-drop at text), Appends-kept a b c (take at text) took kept)

-- bytes that grew by what a source gave are all that it gave
pub Consumes-grown : (a b c : Option (List ℕ)) (before after : List ℕ) → Consumes a b before → Grew b c before after
    → Consumes a c after
Consumes-grown a b c before after gave grew =
    subst (Consumes a c) (sym grew.1) (Consumes-trans a b c before grew.0 gave grew.2)

-- nothing was read
pub ReadAtMost-none : (a b : Option (List ℕ)) (most : ℕ) → Keeps a b → ReadAtMost most a b
ReadAtMost-none a b most kept = ([], omega arith, none a b kept)
  where
    none : (x y : Option (List ℕ)) → Keeps x y → Consumes x y []
    none None y h = tt
    none (Some xs) None h = absurd h
    none (Some xs) (Some ys) h = sym h

-- so many bytes, and then no more than there is room for
pub ReadAtMost-more : (a b c : Option (List ℕ)) (before : List ℕ) (n most : ℕ) → Consumes a b before → ReadAtMost n b c
    → length before + n ≤ most
    → ReadAtMost most a c
ReadAtMost-more a b c before n most gave more fits = (
  before ++ more.0,
  omega (arith, more.1, fits, length-append before more.0),
  Consumes-trans a b c before more.0 gave more.2,
)

-- one read gives no more than its buffer holds
pub ReadAtMost-read : (E : Type 0) (a b : Option (List ℕ)) (r : Result ℕ E) (buffer : List ℕ) (most : ℕ)
    → ReadConsumes a b r buffer
    → length buffer ≤ most → ReadAtMost most a b
ReadAtMost-read E a b (Ok n) buffer most read fits = (take n buffer, omega (arith, fits, length-take n buffer), read.0)
ReadAtMost-read E a b (Err e) buffer most kept fits = ReadAtMost-none a b most kept
