-- Files that are written one after the other.
use Rattle.std.proofs.Common.{◌≡◌, ◌≢◌, ◌∙◌, refl, sym, ap, subst, inl, inr, ℕ, zero, suc, ◌+◌, ◌<◌, ◌≤◌, List, [], ◌∷◌, ◌++◌, length, take, drop, get_or, slice_get, take-append-drop, arith, Option, Some, None, Result, Ok, Err}
use Rattle.std.proofs.lemmas.List.{take_more, drop_more}
use Rattle.url.specs.Parts.{Parts}
use Rattle.sys_traits.specs.declared.error.SysError.{SysError}
use Rattle.sys_traits.specs.declared.error.SysErrorKind.{SysErrorKind}
use Rattle.sys_traits.specs.declared.error.SysErrorKind.TheVariants.{NotFound, Failed, OutOfMemory}
use Rattle.sys_traits.specs.Paths.{Path}
use Rattle.sys_traits.specs.State.{Told, WhereTold}
use Rattle.deno_path_util.specs.WriteLaw.{WriteLaw, HasCalls}
use Rattle.deno_path_util.specs.Tries.{IsTried, IsCountedSix}
use Rattle.deno_path_util.proofs.ToldLemmas.{told_map, told_two}
use Rattle.vendor_files.specs.declared.file.VendorFile.{VendorFile}
use Rattle.vendor_files.specs.declared.file.VendorWriteError.{VendorWriteError}
use Rattle.vendor_files.specs.declared.file.VendorWriteError.TheVariants as fault
use Rattle.vendor_files.specs.declared.write.Refused.{Refused}
use Rattle.vendor_files.specs.Places.{fit_path}
use Rattle.vendor_files.specs.Written.{Outcome, Writes, WritesAll, IsRefusedAt, IsWritten, IsCounted, IsToldOf, IsWrittenUpTo, IsCountedUpTo}

-- the clauses of one write, put together
pub one_write : (mode : ℕ) (file : VendorFile) (path : Path) (content : List ℕ) (result : Outcome)
    (x y : Option Told) → fit_path file.target ≡ Some path → content ≡ file.bytes
    → WhereTold (WriteLaw path content result) x y → WhereTold (HasCalls (IsTried path mode 5 result)) x y
    → WhereTold (Writes mode file result) x y
one_write mode file path content result None None at same h k = tt
one_write mode file path content result (Some a) (Some b) at same h k =
    record { path = path; at = at; law = subst (λ (c : List ℕ). WriteLaw path c result a b) same h; calls = k }
one_write mode file path content result None (Some b) at same h k = absurd h
one_write mode file path content result (Some a) None at same h k = absurd h

-- one file more
writes_push : (mode : ℕ) (files : List VendorFile) (file : VendorFile) (a b c : Told) → WritesAll mode files a b
    → Writes mode file (Ok tt) b c → WritesAll mode (files ++ file ∷ []) a c
writes_push mode [] file a b c same one = (c, subst (λ (t : Told). Writes mode file (Ok tt) t c) same one, refl)
writes_push mode (f ∷ files) file a b c all one = (all.0, all.1, writes_push mode files file all.0 b c all.2 one)

front_more : (files : List VendorFile) (n : ℕ) (file other : VendorFile) → n < length files
    → file ≡ get_or files n other → take (n + 1) files ≡ take n files ++ file ∷ []
front_more files n file other inside here =
    take_more files n other inside ∙ ap (λ (x : VendorFile). take n files ++ x ∷ []) (sym here)

pub told_none : (mode : ℕ) (x : Option Told) → WhereTold (WritesAll mode []) x x
told_none mode None = tt
told_none mode (Some a) = refl

pub told_more : (mode : ℕ) (files : List VendorFile) (n : ℕ) (file other : VendorFile) (x y z : Option Told)
    → n < length files → file ≡ get_or files n other → WhereTold (WritesAll mode (take n files)) x y
    → WhereTold (Writes mode file (Ok tt)) y z → WhereTold (WritesAll mode (take (n + 1) files)) x z
told_more mode files n file other x y z inside here h k =
    subst (λ (fs : List VendorFile). WhereTold (WritesAll mode fs) x z)
    (sym (front_more files n file other inside here))
    (told_two (WritesAll mode (take n files)) (Writes mode file (Ok tt)) (WritesAll mode (take n files ++ file ∷ []))
    (λ a b c p q. writes_push mode (take n files) file a b c p q) x y z h k)

-- the one that was refused
got : (files : List VendorFile) (n : ℕ) (other : VendorFile) → n < length files
    → slice_get files n ≡ Some (get_or files n other)
got [] n other inside = absurd (omega (arith, inside))
got (f ∷ files) zero other inside = refl
got (f ∷ files) (suc n) other inside = got files n other (omega (arith, inside))

pub told_refused : (mode : ℕ) (files : List VendorFile) (n : ℕ) (file other : VendorFile) (error : SysError)
    (x y z : Option Told) → n < length files → file ≡ get_or files n other
    → WhereTold (WritesAll mode (take n files)) x y → WhereTold (Writes mode file (Err error)) y z
    → WhereTold (IsWrittenUpTo files mode (Err (record { number = n; error = error }))) x z
told_refused mode files n file other error x y z inside here h k =
    told_two (WritesAll mode (take n files)) (Writes mode file (Err error))
    (IsWrittenUpTo files mode (Err (record { number = n; error = error })))
    (λ a b c p q. (file, got files n other inside ∙ ap Some (sym here), b, p, q)) x y z h k

-- ---- what is told of it

same_some : {A : Type 0} (x y : A) → Some x ≡ Some y → x ≡ y
same_some x y h = cc

refused_at : (mode : ℕ) (files : List VendorFile) (n : ℕ) (file other : VendorFile) (error : SysError) (a c : Told)
    → n < length files → file ≡ get_or files n other
    → IsWrittenUpTo files mode (Err (record { number = n; error = error })) a c
    → IsRefusedAt mode files file.target error a c
refused_at mode files n file other error a c inside here h =
    let same : h.0 ≡ file = same_some h.0 file (sym h.1 ∙ got files n other inside ∙ ap Some (sym here)) in
    record {
      done = take n files;
      file = file;
      rest = drop (n + 1) files;
      all = sym (take-append-drop n files)
          ∙ ap (λ (fs : List VendorFile). take n files ++ fs) (drop_more files n other inside
          ∙ ap (λ (f : VendorFile). f ∷ drop (n + 1) files) (sym here));
      is = refl;
      between = h.2;
      written = h.3;
      refused = subst (λ (f : VendorFile). Writes mode f (Err error) h.2 c) same h.4;
    }

refused_by : (mode : ℕ) (files : List VendorFile) (file : VendorFile) (error : SysError) (told : VendorWriteError)
    (a c : Told) → IsToldOf file error told → IsRefusedAt mode files file.target error a c
    → IsWritten files mode (Err told) a c
refused_by mode files file error (fault.Path t) a c is h = absurd is
refused_by mode files file error (fault.System t e) a c is h =
    let P : Parts → Type 0 = λ u. IsRefusedAt mode files u e a c in
    let Q : SysError → Type 0 = λ u. IsRefusedAt mode files file.target u a c in
    subst P (sym is.0) (subst Q (sym is.1) h)
refused_by mode files file error fault.OutOfMemory a c is h = inr (file.target, error, h)

pub written_refused : (mode : ℕ) (files : List VendorFile) (refused : Refused) (file other : VendorFile)
    (told : VendorWriteError) (x z : Option Told) → refused.number < length files
    → file ≡ get_or files refused.number other → IsToldOf file refused.error told
    → WhereTold (IsWrittenUpTo files mode (Err refused)) x z → WhereTold (IsWritten files mode (Err told)) x z
written_refused mode files refused file other told x z inside here is h =
    told_map (IsWrittenUpTo files mode (Err refused)) (IsWritten files mode (Err told))
    (λ a c q. refused_by mode files file refused.error told a c is
    (refused_at mode files refused.number file other refused.error a c inside here q)) x z h

-- ---- counts

falls_never : (kind : SysErrorKind) (old new : ℕ) → IsCountedSix (Some kind) old new → old ≤ new
falls_never NotFound old new h = omega (arith, h)
falls_never Failed old new h = omega (arith, h)
falls_never OutOfMemory old new h = h

pub counted_later : (kind : SysErrorKind) (old between new : ℕ) → old ≤ between
    → IsCountedSix (Some kind) between new → IsCountedSix (Some kind) old new
counted_later NotFound old between new l h = omega (arith, l, h)
counted_later Failed old between new l h = omega (arith, l, h)
counted_later OutOfMemory old between new l h = omega (arith, l, h)

pub counted_refused : (file : VendorFile) (error : SysError) (told : VendorWriteError) (old new : ℕ)
    → IsToldOf file error told → IsCountedSix (Some error.kind) old new → IsCounted (Err told) old new
counted_refused file error (fault.Path t) old new is h = absurd is
counted_refused file error (fault.System t e) old new is h =
    subst (λ (u : SysError). IsCountedSix (Some u.kind) old new) (sym is.1) h
counted_refused file error fault.OutOfMemory old new is h = falls_never error.kind old new h
