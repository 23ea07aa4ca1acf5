-- The first of some specifiers that isn't what its own text is read as.
use Rattle.std.proofs.Common.{◌≡◌, ◌∙◌, refl, sym, ap, subst, inl, inr, ℕ, List, [], ◌∷◌, ◌++◌, Option, Some, None}
use Rattle.std.proofs.lemmas.Option.{none-some}
use Rattle.std.specs.List.{AllByRecursion}
use Rattle.url.specs.Parts.{Parts}
use Rattle.file_url.specs.canonical_url.OwnText.{ReadsAsItself}
use Rattle.vendor_run.specs.Readable.{IsFirstUnread}

-- one in front comes first
pub unread_front : (xs ys : List Parts) (url : Parts) → IsFirstUnread xs (Some url) → IsFirstUnread (xs ++ ys) (Some url)
unread_front [] ys url first = absurd (none-some url (sym first))
unread_front (x ∷ xs) ys url (inl here) = inl here
unread_front (x ∷ xs) ys url (inr later) = inr (later.0, unread_front xs ys url later.1)

-- else one behind
pub unread_behind : (xs ys : List Parts) (found : Option Parts) → IsFirstUnread xs None → IsFirstUnread ys found
    → IsFirstUnread (xs ++ ys) found
unread_behind [] ys found none first = first
unread_behind (x ∷ xs) ys found (inl here) first = absurd (none-some x here.1)
unread_behind (x ∷ xs) ys found (inr later) first = inr (later.0, unread_behind xs ys found later.1 first)

-- where there is none, all are
pub all_read : (xs : List Parts) → IsFirstUnread xs None → AllByRecursion ReadsAsItself xs
all_read [] none = tt
all_read (x ∷ xs) (inl here) = absurd (none-some x here.1)
all_read (x ∷ xs) (inr later) = (later.0, all_read xs later.1)
