-- Records of edges whose texts follow one another.
use Rattle.std.proofs.Common.{◌≡◌, ◌∙◌, refl, sym, ap, ℕ, ◌+◌, ◌<◌, List, [], ◌∷◌, ◌++◌, length, take, get_or, arith, length-append, append-nil}
use Rattle.std.proofs.lemmas.List.{take_more}
use Rattle.std.proofs.lemmas.Grind.{flat_map-append}
use Rattle.url.specs.Parts.{Parts}
use Rattle.graph_entry.specs.declared.entry.Dependency.{Dependency}
use Rattle.graph_session.specs.declared.records.EdgeRecord.{EdgeRecord}
use Rattle.graph_session.specs.Records.{edge_record, edge_records, edge_texts, all_edge_texts}

-- one more edge
edge_records_push : (numbered : List Parts) (at to : ℕ) (ds : List Dependency) (d : Dependency)
    → to ≡ at + length (all_edge_texts ds)
    → edge_records numbered at (ds ++ d ∷ []) ≡ edge_records numbered at ds ++ edge_record numbered to d ∷ []
edge_records_push numbered at to [] d is =
    let same : at ≡ to = omega (arith, is) in
    rw same refl
edge_records_push numbered at to (first ∷ ds) d is =
    let next : to ≡ (at + length (edge_texts first)) + length (all_edge_texts ds)
    = omega (arith, is, length-append (edge_texts first) (all_edge_texts ds)) in
    ap (λ rest. edge_record numbered at first ∷ rest)
    (edge_records_push numbered (at + length (edge_texts first)) to ds d next)

all_edge_texts_push : (ds : List Dependency) (d : Dependency)
    → all_edge_texts (ds ++ d ∷ []) ≡ all_edge_texts ds ++ edge_texts d
all_edge_texts_push ds d =
    flat_map-append (λ (e : Dependency). edge_texts e) ds (d ∷ [])
    ∙ ap (λ (end : List ℕ). all_edge_texts ds ++ end) (append-nil (edge_texts d))

-- the edges up to the next place
next_edges : (found : List Dependency) (i : ℕ) (d : Dependency) → i < length found → d ≡ get_or found i d
    → take (i + 1) found ≡ take i found ++ d ∷ []
next_edges found i d inside here =
    take_more found i d inside ∙ ap (λ (e : Dependency). take i found ++ e ∷ []) (sym here)

-- one more edge was laid out: its texts after the others, and its record
pub texts_more : (found : List Dependency) (i : ℕ) (d : Dependency) (old texts new : List ℕ)
    → i < length found → d ≡ get_or found i d → texts ≡ old ++ all_edge_texts (take i found)
    → new ≡ texts ++ edge_texts d → new ≡ old ++ all_edge_texts (take (i + 1) found)
texts_more found i d old texts new inside here are grown =
    grown ∙ ap (λ (v : List ℕ). v ++ edge_texts d) are
    ∙ append-assoc old (all_edge_texts (take i found)) (edge_texts d)
    ∙ ap (λ (v : List ℕ). old ++ v)
    (sym (all_edge_texts_push (take i found) d) ∙ sym (ap all_edge_texts (next_edges found i d inside here)))
  where
    append-assoc : (xs ys zs : List ℕ) → (xs ++ ys) ++ zs ≡ xs ++ (ys ++ zs)
    append-assoc [] ys zs = refl
    append-assoc (x ∷ xs) ys zs = ap (λ (l : List ℕ). x ∷ l) (append-assoc xs ys zs)

pub filled_more : (found : List Dependency) (i : ℕ) (d : Dependency) (old n new : ℕ)
    → i < length found → d ≡ get_or found i d → n ≡ old + length (all_edge_texts (take i found))
    → new ≡ n + length (edge_texts d) → new ≡ old + length (all_edge_texts (take (i + 1) found))
filled_more found i d old n new inside here count grown =
    let whole : length (all_edge_texts (take (i + 1) found))
    ≡ length (all_edge_texts (take i found)) + length (edge_texts d)
    = ap length (ap all_edge_texts (next_edges found i d inside here) ∙ all_edge_texts_push (take i found) d)
    ∙ length-append (all_edge_texts (take i found)) (edge_texts d) in
    omega (arith, whole, grown, count)

pub records_more : (numbered : List Parts) (found : List Dependency) (i : ℕ) (d : Dependency)
    (edges new : List EdgeRecord) (made : EdgeRecord) (at start : ℕ)
    → i < length found → d ≡ get_or found i d → edges ≡ edge_records numbered at (take i found)
    → start ≡ at + length (all_edge_texts (take i found))
    → made ≡ edge_record numbered start d → new ≡ edges ++ made ∷ []
    → new ≡ edge_records numbered at (take (i + 1) found)
records_more numbered found i d edges new made at start inside here are starts is grown =
    grown ∙ ap (λ (s : List EdgeRecord). s ++ made ∷ []) are
    ∙ ap (λ (r : EdgeRecord). edge_records numbered at (take i found) ++ r ∷ []) is
    ∙ sym (edge_records_push numbered at start (take i found) d starts)
    ∙ sym (ap (edge_records numbered at) (next_edges found i d inside here))
