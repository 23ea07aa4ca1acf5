-- Lists of texts, seen as lists of what they are.
use Rattle.std.proofs.Common.{◌≡◌, ℕ, ◌+◌, ◌<◌, Bool, List, [], ◌∷◌, ◌&&◌, ◌++◌, map, take, length, get_or, ap, refl, ◌∙◌, Bor, codes, nat_eq, arith}
use Rattle.std.specs.Bool.{if◌then◌else◌}
use Rattle.std.specs.List.{list_all, prefix_len}
use Rattle.std.proofs.lemmas.List.{take_more, map-append, length-map, length-take-le}
use Rattle.lexical_path.specs.Paths.{texts, path_of}
use Rattle.lexical_path.proofs.PathsLemmas.{path_of_push}

pub list_all-texts : (test : List ℕ → Bool) (list : List (Bor (List ℕ)))
    → list_all test (texts list) ≡ list_all (λ text. test text.now) list
list_all-texts test [] = refl
list_all-texts test (text ∷ list) = ap (λ rest. test text.now && rest) (list_all-texts test list)

pub prefix_len-texts : (test : List ℕ → Bool) (list : List (Bor (List ℕ)))
    → prefix_len test (texts list) ≡ prefix_len (λ text. test text.now) list
prefix_len-texts test [] = refl
prefix_len-texts test (text ∷ list) = ap (λ n. if test text.now then 1 + n else 0) (prefix_len-texts test list)

-- one more text comes after a slash, unless it is the first
pub path_of_mapped : (f : List ℕ → List ℕ) (absolute : Bool) (list : List (Bor (List ℕ))) (i : ℕ) (d : Bor (List ℕ))
    → i < length list
    → path_of absolute (map f (texts (take (i + 1) list)))
    ≡ (path_of absolute (map f (texts (take i list))) ++ (if nat_eq i 0 then [] else codes "/"))
    ++ f (get_or list i d).now
path_of_mapped f absolute list i d inside =
    let front = texts (take i list) in
    let last = (get_or list i d).now in
    ap (λ part. path_of absolute (map f (texts part))) (take_more list i d inside)
    ∙ ap (λ part. path_of absolute (map f part)) (map-append (λ text. text.now) (take i list) (get_or list i d ∷ []))
    ∙ ap (path_of absolute) (map-append f front (last ∷ []))
    ∙ path_of_push absolute (map f front) (f last)
    ∙ ap (λ n. (path_of absolute (map f front) ++ (if nat_eq n 0 then [] else codes "/")) ++ f last)
    (length-map front f ∙ length-map (take i list) (λ text. text.now) ∙ length-take-le i list (omega arith))
