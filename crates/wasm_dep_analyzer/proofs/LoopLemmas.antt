-- Reading the items of a vector one after the other, as a loop does.
use Rattle.std.proofs.Common.{◌≡◌, ℕ, suc, ◌-◌, ◌+◌, ◌≤◌, ◌<◌, List, [], ◌∷◌, ◌++◌, Result, Ok, Err, refl, sym, ap, ◌∙◌, append_assoc, arith}
use Rattle.std.proofs.lemmas.List.{append-nil}
use Rattle.wasm_dep_analyzer.specs.declared.error.ParseError.{ParseError}
use Rattle.wasm_dep_analyzer.specs.declared.error.ParseError.TheVariants.{OutOfMemory}
use Rattle.wasm_dep_analyzer.specs.Reading.{Read, ◌>>=◌, IsFaultOf}
use Rattle.wasm_dep_analyzer.specs.Values.{items_at}

-- a fault that reading meets is its fault
pub fault_is : {Y : Type 0} (e : ParseError) (read : Result Y ParseError) → read ≡ Err e → IsFaultOf e read
fault_is OutOfMemory read h = tt
fault_is _ read h = h

-- the fault of a step is the fault of what begins with it
pub fault_on : {X Y : Type 0} (e : ParseError) (read : Result X ParseError) (f : X → Result Y ParseError)
    → IsFaultOf e read → IsFaultOf e (read >>= f)
fault_on OutOfMemory read f h = tt
fault_on _ read f h = rw h refl

-- a fault is told of equal readings
pub fault_same : {Y : Type 0} (e : ParseError) (read other : Result Y ParseError) → read ≡ other → IsFaultOf e read
    → IsFaultOf e other
fault_same OutOfMemory read other same h = tt
fault_same _ read other same h = sym same ∙ h

-- what was read before, and what is still read
abbrev pub with_front : {A : Type 0} → List A → Read (List A) → Read (List A)
with_front front read = read >>= λ x. Ok (front ++ x.0, x.1)

regroup : {A : Type 0} (front : List A) (n : A) (read : Read (List A))
    → with_front front (read >>= λ x. Ok (n ∷ x.0, x.1)) ≡ with_front (front ++ n ∷ []) read
regroup front n (Ok x) = ap (λ (ns : List _). Ok (ns, x.1)) (simp append_assoc)
regroup front n (Err f) = refl

-- one more item
pub goes_on : {A : Type 0} (item : List ℕ → Read A) (front : List A) (count i : ℕ) (bytes : List ℕ) (n : A)
    (after : List ℕ) (total : Read (List A)) → i < count → item bytes ≡ Ok (n, after)
    → with_front front (items_at item (count - i) bytes) ≡ total
    → with_front (front ++ n ∷ []) (items_at item (count - (i + 1)) after) ≡ total
unfolding items_at
goes_on item front count i bytes n after total lt h so_far =
    let k : count - i ≡ suc (count - (i + 1)) = omega arith in
    let one : with_front front (items_at item (count - i) bytes)
    ≡ with_front (front ++ n ∷ []) (items_at item (count - (i + 1)) after) =
    rw (k, h) (regroup front n (items_at item (count - (i + 1)) after)) in
    sym one ∙ so_far

-- a faulty item
fails : {A : Type 0} (item : List ℕ → Read A) (front : List A) (count i : ℕ) (bytes : List ℕ) (e : ParseError)
    → i < count → item bytes ≡ Err e → with_front front (items_at item (count - i) bytes) ≡ Err e
unfolding items_at
fails item front count i bytes e lt h =
    let k : count - i ≡ suc (count - (i + 1)) = omega arith in
    rw (k, h) refl

-- the fault of an item is the fault of the whole
pub ends : {A : Type 0} (item : List ℕ → Read A) (front : List A) (count i : ℕ) (bytes : List ℕ) (e : ParseError)
    (total : Read (List A)) → i < count → IsFaultOf e (item bytes)
    → with_front front (items_at item (count - i) bytes) ≡ total → IsFaultOf e total
ends item front count i bytes OutOfMemory total lt h so_far = tt
ends item front count i bytes _ total lt h so_far = sym so_far ∙ fails item front count i bytes _ lt h

-- all items are read
pub is_done : {A : Type 0} (item : List ℕ → Read A) (front : List A) (count i : ℕ) (bytes : List ℕ)
    (total : Read (List A)) → count ≤ i → with_front front (items_at item (count - i) bytes) ≡ total
    → total ≡ Ok (front, bytes)
unfolding items_at
is_done item front count i bytes total le so_far =
    let k : count - i ≡ 0 = omega arith in
    let one : with_front front (items_at item (count - i) bytes) ≡ Ok (front, bytes) =
    rw k (ap (λ (ns : List _). Ok (ns, bytes)) (append-nil front)) in
    sym so_far ∙ one
