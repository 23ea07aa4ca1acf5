-- What one read or write in memory does to the bytes.
use Rattle.std.proofs.Common.{◌≡◌, ℕ, ◌+◌, ◌-◌, ◌<◌, ◌≤◌, min, List, [], ◌++◌, length, take, drop, ◌∙◌, arith}
use Rattle.std.proofs.lemmas.List.{take-append-drop, take-append-le, drop-drop, drop_all}
use Rattle.std.proofs.lemmas.Grind.{common_steps}

-- the piece that was put into the buffer stands in front of what is left
pub given_piece : (bytes part rest : List ℕ) (at n : ℕ) → part ≡ take n (drop at bytes) → n ≤ length bytes - at
    → drop at bytes ≡ take n (part ++ rest) ++ drop (at + n) bytes
given_piece bytes part rest at n is fits =
    let len : n ≤ length part = rw is (grind (arith, common_steps)) in
    let front : take n (part ++ rest) ≡ take n (drop at bytes) =
    take-append-le n part rest len ∙ (rw is (grind (arith, common_steps))) in
    rw (front, ← drop-drop n at bytes, take-append-drop n (drop at bytes))

-- nothing was given only where nothing was left
pub none_left : (bytes buffer : List ℕ) (at piece n m : ℕ) → 0 < piece → n ≡ min m (length bytes - at)
    → m ≡ min piece (length buffer)
    → n ≡ 0 → 0 < length buffer → drop (at + n) bytes ≡ []
none_left bytes buffer at piece n m some is is_m zero room = drop_all (at + n) bytes (omega arith)
