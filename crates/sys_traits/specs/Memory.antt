-- A system in memory: what it is, which calls it refuses, and the call that each leaves in its log.
use Rattle.std.specs.Prelude.{◌≡◌, ℕ, ◌+◌, ◌/◌, nat_lt, Bool, true, false, ◌||◌, ◌==◌, List, [], ◌∷◌, ◌++◌, map, take, length, slice_index, codes, bytes_eq, count_by, filter, not, Option, Some, None, is_some, if◌then◌else◌}
use Rattle.std.specs.List.{list_any}
use Rattle.sys_traits.specs.declared.error.SysErrorKind.{SysErrorKind}
use Rattle.sys_traits.specs.declared.error.SysErrorKind.TheVariants.{NotFound, Failed, OutOfMemory}
use Rattle.sys_traits.specs.declared.call.SysCall.{SysCall}
use Rattle.sys_traits.specs.declared.call.SysCallKind.{SysCallKind}
use Rattle.sys_traits.specs.declared.call.SysCallKind.TheVariants as kinds
use Rattle.sys_traits.specs.declared.place.Place.{Place}
use Rattle.sys_traits.specs.declared.place.Place.TheVariants as places
use Rattle.sys_traits.specs.declared.place.Need.{Need}
use Rattle.sys_traits.specs.declared.place.Need.TheVariants as needs
use Rattle.sys_traits.specs.Paths.{Path, spot, root, is_below, is_at_or_below, parent_of}
use Rattle.sys_traits.specs.State.{Files, file_at, Told}
use Rattle.sys_traits.specs.Files.{with_file, without_file, moved_file}

-- What contracts see of a system in memory. `made` are folders that are there, and so are all above them;
-- `next` is the place of the next random byte; `failing` are the numbers of the calls that are to fail.
pub record Memory : Type 0 where
  pub folder : Path
  pub files : Files
  pub made : List Path
  pub random : List ℕ
  pub next : ℕ
  pub failing : List ℕ
  pub log : List SysCall

-- ---- what is at a path

-- a folder is there: the root, a folder that was made, or one above it
abbrev pub is_folder : List Path → Path → Bool
is_folder made path = bytes_eq path root || list_any (is_at_or_below path) made

-- a file stands where the path needs a folder
abbrev pub is_blocked : Files → Path → Bool
is_blocked files path = list_any (λ file. is_below file.0 path) files

-- what is at the path
abbrev pub place_of : Files → List Path → Path → Place
place_of files made path =
    if is_blocked files path then places.Blocked
    else (if is_folder made path then places.Folder
    else (if is_some (file_at files path) then places.File
    else (if is_folder made (parent_of path) then places.Free
    else places.Missing)))

-- why a call that needs this is refused at such a place, if it is
abbrev pub refusal_at : Need → Place → Option SysErrorKind
refusal_at need places.Blocked = Some Failed
refusal_at needs.File places.File = None
refusal_at needs.File places.Folder = Some Failed
refusal_at needs.File places.Free = Some NotFound
refusal_at needs.File places.Missing = Some NotFound
refusal_at needs.Room places.File = None
refusal_at needs.Room places.Folder = Some Failed
refusal_at needs.Room places.Free = None
refusal_at needs.Room places.Missing = Some NotFound
refusal_at needs.FolderRoom places.File = Some Failed
refusal_at needs.FolderRoom places.Folder = None
refusal_at needs.FolderRoom places.Free = None
refusal_at needs.FolderRoom places.Missing = None
refusal_at needs.Anything places.File = None
refusal_at needs.Anything places.Folder = None
refusal_at needs.Anything places.Free = Some NotFound
refusal_at needs.Anything places.Missing = Some NotFound
refusal_at needs.Way places.File = None
refusal_at needs.Way places.Folder = None
refusal_at needs.Way places.Free = None
refusal_at needs.Way places.Missing = None

-- ---- which call is refused

-- the next call's number, which is that of the calls in the log, is one that is to fail
abbrev pub is_listed : Memory → Bool
is_listed m = list_any (λ number. number == length m.log) m.failing

-- why the next call is refused, if it is: by its number, or by what it finds at the path
abbrev pub refusal_in : Memory → Need → Path → Option SysErrorKind
refusal_in m need path = if is_listed m then Some Failed else refusal_at need (place_of m.files m.made path)

-- why the next call is refused, if it needs nothing
abbrev pub refusal_by_number : Memory → Option SysErrorKind
refusal_by_number m = if is_listed m then Some Failed else None

-- the first refusal of two
abbrev pub first_refusal : Option SysErrorKind → Option SysErrorKind → Option SysErrorKind
first_refusal None second = second
first_refusal (Some kind) second = Some kind

-- a value for a call that isn't refused, and another one for a refused call
abbrev pub unless_refused : {A : Type 0} → Option SysErrorKind → A → A → A
unless_refused None done refused = done
unless_refused (Some _) done refused = refused

-- ---- the calls, as they are logged

-- an entry of the log, by its fields
abbrev pub entry : SysCallKind → Path → Option Path → ℕ → Option SysErrorKind → Files → SysCall
entry kind path to number refusal files =
    record { kind = kind; path = path; to = to; number = number; refusal = refusal; files = files }

-- `fs_canonicalize`
abbrev pub canonicalizing : Memory → Path → SysCall
canonicalizing m path =
    let at = spot m.folder path in
    let refusal = refusal_in m needs.Anything at in
    entry kinds.Canonicalize path (unless_refused refusal (Some at) None) 0 refusal m.files

-- `fs_create_dir_all`
abbrev pub creating : Memory → Path → SysCall
creating m path =
    let refusal = refusal_in m needs.FolderRoom (spot m.folder path) in
    entry kinds.CreateDirAll path None 0 refusal m.files

-- a file or folder is there
abbrev pub is_there : Place → Bool
is_there places.File = true
is_there places.Folder = true
is_there places.Free = false
is_there places.Missing = false
is_there places.Blocked = false

-- `fs_exists`, whose number is 1 where a file or folder is there
abbrev pub looking_up : Memory → Path → SysCall
looking_up m path =
    let at = spot m.folder path in
    let refusal = refusal_in m needs.Way at in
    let truth = if is_there (place_of m.files m.made at) then 1 else 0 in
    entry kinds.Exists path None (unless_refused refusal truth 0) refusal m.files

-- `fs_open`
abbrev pub opening : Memory → Path → ℕ → SysCall
opening m path mode =
    let at = spot m.folder path in
    let refusal = refusal_in m needs.Room at in
    entry kinds.Open path None mode refusal (unless_refused refusal (with_file m.files at []) m.files)

-- the first half of the bytes, rounded down
abbrev pub half : List ℕ → List ℕ
half bytes = take (length bytes / 2) bytes

-- what a write leaves of its bytes in a file that is there: half of them where it is to fail
abbrev pub written : Memory → List ℕ → List ℕ
written m bytes = if is_listed m then half bytes else bytes

-- the files after a write to a path at which this is
abbrev pub files_written : Memory → Path → List ℕ → Place → Files
files_written m path bytes places.File = with_file m.files path (written m bytes)
files_written m path bytes places.Folder = m.files
files_written m path bytes places.Free = m.files
files_written m path bytes places.Missing = m.files
files_written m path bytes places.Blocked = m.files

-- `fs_write_all`
abbrev pub writing : Memory → Path → List ℕ → SysCall
writing m path bytes =
    let at = spot m.folder path in
    let files = files_written m at bytes (place_of m.files m.made at) in
    entry kinds.WriteAll path None 0 (refusal_in m needs.File at) files

-- `fs_remove_file`
abbrev pub removing : Memory → Path → SysCall
removing m path =
    let at = spot m.folder path in
    let refusal = refusal_in m needs.File at in
    entry kinds.Remove path None 0 refusal (unless_refused refusal (without_file m.files at) m.files)

-- `fs_rename`; the first path is looked at before the second one
abbrev pub renaming : Memory → Path → Path → SysCall
renaming m from to =
    let source = spot m.folder from in
    let target = spot m.folder to in
    let refusal = first_refusal (refusal_in m needs.File source) (refusal_in m needs.Room target) in
    let files = unless_refused refusal (moved_file m.files source target) m.files in
    entry kinds.Rename from (Some to) 0 refusal files

-- `sys_random_u8`
abbrev pub drawing : Memory → SysCall
drawing m =
    let refusal = refusal_by_number m in
    entry kinds.Random [] None (unless_refused refusal (slice_index m.random m.next) 0) refusal m.files

-- `thread_sleep_ms`
abbrev pub sleeping : Memory → ℕ → SysCall
sleeping m ms = entry kinds.Sleep [] None ms None m.files

-- ---- the memory after a call

-- the call is logged, and the files are those that it left
abbrev pub logged : Memory → SysCall → Memory
logged m call = record m { files = call.files; log = m.log ++ call ∷ [] }

-- the folders, with this one
abbrev pub with_folder : List Path → Path → List Path
with_folder made path = if is_folder made path then made else made ++ path ∷ []

-- after `creating` the folder is there
abbrev pub created : Memory → Path → Memory
created m path =
    let call = creating m path in
    record (logged m call) { made = unless_refused call.refusal (with_folder m.made (spot m.folder path)) m.made }

-- the place after this one, which is the first after the last
abbrev pub place_after : List ℕ → ℕ → ℕ
place_after random next = if nat_lt (next + 1) (length random) then next + 1 else 0

-- after `drawing` the next byte is the following one
abbrev pub drawn : Memory → Memory
drawn m =
    let call = drawing m in
    record (logged m call) { next = unless_refused call.refusal (place_after m.random m.next) m.next }

-- ---- answers

-- A call and the memory behind it, by the refusal that is answered: out of memory leaves everything, and any other
-- answer is that of the call.
abbrev pub Answered : SysCall → Memory → Option SysErrorKind → Memory → Memory → Type 0
Answered call after None old new = (call.refusal ≡ None) × (new ≡ after)
Answered call after (Some NotFound) old new = (call.refusal ≡ Some NotFound) × (new ≡ after)
Answered call after (Some Failed) old new = (call.refusal ≡ Some Failed) × (new ≡ after)
Answered call after (Some OutOfMemory) old new = new ≡ old

-- what a refusal says
abbrev pub message_of : SysErrorKind → List ℕ
message_of NotFound = codes "not found"
message_of Failed = codes "the call failed"
message_of OutOfMemory = []

-- ---- a new system

-- a path that begins with `/`
abbrev pub rooted : Path → Path
rooted path = if slice_index path 0 == 47 then path else root ++ path

-- the folders that are given, and those that the files stand in
abbrev pub given_folders : Path → Files → List Path → List Path
given_folders folder files folders =
    map (λ path. spot folder path) folders ++ map (λ file. parent_of (spot folder file.0)) files

-- the files that are given, at their places; of files with one path the first
abbrev pub placed_files : Path → Files → Files
placed_files folder [] = []
placed_files folder (file ∷ files) = with_file (placed_files folder files) (spot folder file.0) file.1

-- the files that are given, but those where a folder is
abbrev pub given_files : Path → List Path → Files → Files
given_files folder made files = filter (λ file. not (is_folder made file.0)) (placed_files folder files)

abbrev pub new_memory : Files → List Path → Path → List ℕ → List ℕ → Memory
new_memory files folders current_dir random failing =
    let folder = rooted current_dir in
    let made = given_folders folder files folders in
    record {
      folder = folder;
      files = given_files folder made files;
      made = made;
      random = random;
      next = 0;
      failing = failing;
      log = [];
    }

-- ---- what it tells

abbrev pub told_of : Memory → Told
told_of m = record { folder = m.folder; files = m.files; log = m.log }

-- the call was refused
abbrev pub is_fault : SysCall → Bool
is_fault call = is_some call.refusal

-- how many calls were refused
abbrev pub faults_of : Memory → ℕ
faults_of m = count_by is_fault m.log
