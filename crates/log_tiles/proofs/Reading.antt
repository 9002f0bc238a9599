-- The entries of a bundle are read back from its bytes, and no other bytes are read as them.
use Rattle.std.proofs.Common.{◌≡◌, ◌≢◌, ℕ, zero, suc, ◌+◌, ◌*◌, ◌/◌, ◌%◌, ◌<◌, ◌≤◌, List, [], ◌∷◌, ◌++◌, All, Option, None, Some, length, take, drop, inl, inr, refl, sym, ap, ◌∙◌, arith, length-take, length-append}
use Rattle.std.proofs.lemmas.Bool.{cases_lt, le-ltb, lt-ltb}
use Rattle.std.proofs.lemmas.List.{drop_at, take_at, take-append-drop}
use Rattle.std.proofs.lemmas.List.Elements.{All-drop}
use Rattle.std.proofs.lemmas.Option.{none-some}
use Rattle.log_tiles.specs.declared.entries.BundleError.{BundleError}
use Rattle.log_tiles.specs.declared.entries.BundleError.TheVariants.{Cut, Fewer, More}
use Rattle.log_tiles.specs.Entries.{IsAtEnd, IsBehind, IsRefusedAs, Unread, before, bundle_bytes, entry_bytes, read_entries, read_on, split_at, split_entry}

split_long : (n : ℕ) (bytes : List ℕ) → n ≤ length bytes → split_at n bytes ≡ Some (record { entry = take n bytes; rest = drop n bytes })
split_long n bytes fits = rw (le-ltb (length bytes) n fits) refl

split_short : (n : ℕ) (bytes : List ℕ) → length bytes < n → split_at n bytes ≡ None
split_short n bytes short = rw (lt-ltb (length bytes) n short) refl

split_back : (n : ℕ) (entry rest : List ℕ) → n ≡ length entry → split_at n (entry ++ rest) ≡ Some (record { entry = entry; rest = rest })
split_back n entry rest is =
    split_long n (entry ++ rest) (omega (arith, is, length-append entry rest))
    ∙ rw (take_at entry rest n (sym is), drop_at entry rest n (sym is)) refl

pub read_back : (es : List (List ℕ)) → read_entries (length es) (bundle_bytes es) ≡ Some es
unfolding read_entries
read_back [] = refl
read_back (e ∷ es) =
    let len : length e / 256 * 256 + length e % 256 ≡ length e = omega arith in
    ap (read_on (read_entries (length es))) (split_back (length e / 256 * 256 + length e % 256) e (bundle_bytes es) len)
    ∙ ap (before e) (read_back es)

abbrev bytes_of : Option (List (List ℕ)) → List ℕ
bytes_of None = []
bytes_of (Some es) = bundle_bytes es

entry_whole : (high low : ℕ) (bytes : List ℕ) → low < 256 → high * 256 + low ≤ length bytes
    → high ∷ low ∷ bytes ≡ entry_bytes (take (high * 256 + low) bytes) ++ drop (high * 256 + low) bytes
entry_whole high low bytes small fits =
    let n = high * 256 + low in
    let size : length (take n bytes) ≡ n = omega (arith, length-take n bytes, fits) in
    let first : length (take n bytes) / 256 ≡ high = omega (arith, size, small) in
    let second : length (take n bytes) % 256 ≡ low = omega (arith, size, small) in
    rw (first, second) (ap (λ r. high ∷ low ∷ r) (sym (take-append-drop n bytes)))

read_first : (entry bytes rest : List ℕ) (o : Option (List (List ℕ))) (es : List (List ℕ)) → bytes ≡ entry_bytes entry ++ rest
    → ((found : List (List ℕ)) → o ≡ Some found → rest ≡ bundle_bytes found) → before entry o ≡ Some es → bytes ≡ bundle_bytes es
read_first entry bytes rest None es split later is = absurd (none-some es is)
read_first entry bytes rest (Some found) es split later is =
    split ∙ ap (λ r. entry_bytes entry ++ r) (later found refl) ∙ ap bytes_of is

pub read_only : (n : ℕ) (bytes : List ℕ) (es : List (List ℕ)) → All (λ b. b < 256) bytes → read_entries n bytes ≡ Some es → bytes ≡ bundle_bytes es
unfolding read_entries
read_only zero [] es small is = ap bytes_of is
read_only zero (b ∷ bytes) es small is = absurd (none-some es is)
read_only (suc n) [] es small is = absurd (none-some es is)
read_only (suc n) (high ∷ []) es small is = absurd (none-some es is)
read_only (suc n) (high ∷ low ∷ bytes) es small is =
    let len = high * 256 + low in
    elim (cases_lt (length bytes) len) [
      | inl short ↦ absurd (none-some es (sym (ap (read_on (read_entries n)) (split_short len bytes short)) ∙ is))
      | inr fits ↦ read_first (take len bytes) (high ∷ low ∷ bytes) (drop len bytes) (read_entries n (drop len bytes)) es
          (entry_whole high low bytes (small 1 0 (omega arith)) fits)
          (λ found here. read_only n (drop len bytes) found (All-drop (λ b. b < 256) len bytes (All-drop (λ b. b < 256) 2 (high ∷ low ∷ bytes) small)) here)
          (sym (ap (read_on (read_entries n)) (split_long len bytes fits)) ∙ is)
    ]

-- ---- a reader

pub behind_reads : (old new : Unread) (entry : List ℕ) → IsBehind old entry new → read_entries old.left old.rest ≡ before entry (read_entries new.left new.rest)
unfolding read_entries
behind_reads old new entry is =
    let one : old.left ≡ suc new.left = omega (arith, is.left) in
    ap (λ n. read_entries n old.rest) one ∙ ap (read_on (read_entries new.left)) is.rest

pub end_reads : (old new : Unread) → IsAtEnd old new → read_entries old.left old.rest ≡ Some []
unfolding read_entries
end_reads old new is = ap (λ n. read_entries n old.rest) is.left ∙ ap (read_entries 0) is.rest

none_behind : (bytes : List ℕ) → bytes ≢ [] → read_entries 0 bytes ≡ None
unfolding read_entries
none_behind [] some = absurd (some refl)
none_behind (byte ∷ bytes) some = refl

none_from : (left : ℕ) (bytes : List ℕ) → 0 < left → split_entry bytes ≡ None → read_entries left bytes ≡ None
unfolding read_entries
none_from zero bytes some none = absurd (omega (arith, some))
none_from (suc n) bytes some none = ap (read_on (read_entries n)) none

pub refused_reads : (old : Unread) (error : BundleError) → IsRefusedAs old error → read_entries old.left old.rest ≡ None
refused_reads old More is = ap (λ n. read_entries n old.rest) is.0 ∙ none_behind old.rest is.1
refused_reads old Fewer is = none_from old.left old.rest is.0 (ap split_entry is.1)
refused_reads old Cut is = none_from old.left old.rest is.0 is.2
