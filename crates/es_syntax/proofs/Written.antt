-- A node that was opened behind some entries, and closed behind its parts.
use Rattle.std.proofs.Common.{◌≡◌, ℕ, ◌+◌, ◌<◌, ◌-◌, List, [], ◌∷◌, ◌++◌, length, append_assoc, set, take, drop, min, refl, arith, length-drop}
use Rattle.std.proofs.Math.Seq.{take-append_seam, drop-append_seam, drop-append-add}
use Rattle.std.proofs.lemmas.List.{take-append-drop, take-set, drop-set, take_min, drop_min}
use Rattle.es_syntax.specs.declared.entry.What.{What}
use Rattle.es_syntax.specs.declared.entry.What.TheVariants as vWhat
use Rattle.es_syntax.specs.declared.entry.Entry.{Entry}
use Rattle.es_syntax.specs.Written.{headed, closed, opened}

pub closed_at : (w : What) (f t at : ℕ) (a b : List Entry) (h : Entry) → at ≡ length a
    → closed w f t at ((a ++ h ∷ []) ++ b) ≡ a ++ headed w f t b
unfolding closed
closed_at w f t at a b h e = rw (e, append_assoc, take-append_seam a (h ∷ b), drop-append-add a (h ∷ b) 1) refl

-- to close a node is to write its head
pub closed_set : (w : What) (f t at n : ℕ) (es : List Entry) → at < length es → n ≡ length es - at - 1
    → set es at (record { what = w; from = f; to = t; size = n }) ≡ closed w f t at es
unfolding closed
closed_set w f t at n es h e =
    let y : Entry = record { what = w; from = f; to = t; size = n } in
    let k : n ≡ length (drop (at + 1) es) = omega (arith, length-drop (at + 1) es) in
    rw (← take-append-drop at (set es at y), take-set es at y, drop-set es at y h, k) refl

-- a place past the end is the end
pub opened_there : (at n : ℕ) (es : List Entry) (h : Entry) → n ≡ min at (length es)
    → take n es ++ h ∷ drop n es ≡ (take at es ++ h ∷ []) ++ drop at es
opened_there at n es h e = rw (e, take_min, drop_min, append_assoc) refl

-- a node that was opened before some entries, and closed behind others
pub closed_before : (w : What) (f t at : ℕ) (a b c : List Entry) → at ≡ length a
    → closed w f t at (((take at (a ++ b) ++ opened) ++ drop at (a ++ b)) ++ c) ≡ a ++ headed w f t (b ++ c)
closed_before w f t at a b c e =
    rw (e, take-append_seam a b, drop-append_seam a b, append_assoc)
    (closed_at w f t (length a) a (b ++ c) (record { what = vWhat.Parts; from = 0; to = 0; size = 0 }) refl)
