-- Origins that are looked at byte by byte.
use Rattle.std.proofs.Common.{◌≡◌, ℕ, ◌+◌, ◌<◌, ◌≤◌, List, length, drop, arith, refl, true, false}
use Rattle.std.specs.Prelude.{slice_index}
use Rattle.std.proofs.lemmas.List.{drop_more, drop_all}
use Rattle.std.proofs.lemmas.Bool.Decides.{nat_tests}
use Rattle.slh_log.specs.Reading.{all_origin_bytes, is_origin_byte}

byte_fits : (b : ℕ) → 32 < b → ¬ (b ≡ 43) → ¬ (b ≡ 127) → is_origin_byte b ≡ true
byte_fits b low plus delete = grind (arith, nat_tests)

byte_low : (b : ℕ) → b ≤ 32 → is_origin_byte b ≡ false
byte_low b low = grind (arith, nat_tests)

byte_plus : (b : ℕ) → b ≡ 43 → is_origin_byte b ≡ false
byte_plus b is = rw is refl

byte_delete : (b : ℕ) → b ≡ 127 → is_origin_byte b ≡ false
byte_delete b is = rw is refl

pub goes_on : (text : List ℕ) (i : ℕ) → i < length text → 32 < slice_index text i → ¬ (slice_index text i ≡ 43) → ¬ (slice_index text i ≡ 127)
    → all_origin_bytes (drop i text) ≡ all_origin_bytes (drop (i + 1) text)
goes_on text i below low plus delete = rw (drop_more text i 0 below, byte_fits _ low plus delete) refl

pub stops_low : (text : List ℕ) (i : ℕ) → i < length text → slice_index text i ≤ 32 → all_origin_bytes (drop i text) ≡ false
stops_low text i below low = rw (drop_more text i 0 below, byte_low _ low) refl

pub stops_plus : (text : List ℕ) (i : ℕ) → i < length text → slice_index text i ≡ 43 → all_origin_bytes (drop i text) ≡ false
stops_plus text i below is = rw (drop_more text i 0 below, byte_plus _ is) refl

pub stops_delete : (text : List ℕ) (i : ℕ) → i < length text → slice_index text i ≡ 127 → all_origin_bytes (drop i text) ≡ false
stops_delete text i below is = rw (drop_more text i 0 below, byte_delete _ is) refl

pub all_seen : (text : List ℕ) (i : ℕ) → length text ≤ i → all_origin_bytes (drop i text) ≡ true
all_seen text i past = rw (drop_all i text past) refl
