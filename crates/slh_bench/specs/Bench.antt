-- The words of a bench and its report (docs/LINES.md).
use Rattle.std.specs.Prelude.{◌≡◌, ◌==◌, ◌⊎◌, ℕ, zero, suc, ◌+◌, ◌*◌, ◌%◌, ◌^◌, List, []}
use Rattle.std.specs.Prelude.{◌++◌, length, drop, Bool, ◌&&◌, nat_le, Option, None, Some}
use Rattle.std.specs.Prelude.{codes, decimal, if◌then◌else◌}
use Rattle.std.specs.Io.KnownBytes.{Appends}
use Rattle.std.specs.Str.{bytes_eq}
use Rattle.hex.specs.Hex.{encode_lower}
use Rattle.hmac_sha256.specs.Hkdf.{hkdf_expand, hkdf_extract}
use Rattle.sha256_lanes.specs.Sha256.{sha256}
use Rattle.line_serve.specs.Decimals.{decimal_value}
use Rattle.line_serve.specs.Engine.{TakesFront}
use Rattle.line_serve.specs.Fields.{field_at, for_some}
use Rattle.slh_core.specs.Bytes.{big_endian, joined, part}
use Rattle.slh_core.specs.Parameters.{Scheme}
use Rattle.slh_frames.specs.Frames.{frame}
use Rattle.slh_trees.specs.Keys.{signing_key_bytes}
use Rattle.slh_trees.specs.Signing.{signature_of}
use Rattle.slh_dsa.specs.Calls.{is_valid}
use Rattle.slh_frames.specs.declared.frame.Mode.TheVariants.{Pure}
use Rattle.slh_sets.specs.Sets.{name_of, scheme_for, set_named}
use Rattle.slh_bench.specs.declared.bench.Bench.{Bench}

-- NUMBER is 1 to 20 decimal digits with a value below 2^64
abbrev pub bench_number : List ℕ → Option ℕ
bench_number word = decimal_value 20 (2 ^ 64) word

-- COUNT is 1 or 2 decimal digits with a value of 1 to 64
abbrev pub at_least_one : Option ℕ → Option ℕ
at_least_one None = None
at_least_one (Some count) = if nat_le 1 count then Some count else None

abbrev pub bench_count : List ℕ → Option ℕ
bench_count word = at_least_one (decimal_value 2 65 word)

-- what the words `bench SET NUMBER COUNT` ask for. Other words ask for no bench
abbrev pub bench_of : List (List ℕ) → Option Bench
bench_of words =
    if length words == 4 && bytes_eq (field_at words 0) (codes "bench") then
    for_some (set_named (field_at words 1)) (λ set.
    for_some (bench_number (field_at words 2)) (λ number.
    for_some (bench_count (field_at words 3)) (λ count.
    Some (record { set = set; number = number; count = count }))))
    else None

-- the key that all bytes of a bench are derived from (RFC 5869): NUMBER's, as 8 bytes, under a salt
unfoldable pub bench_prk : ℕ → List ℕ
bench_prk number = hkdf_extract (codes "slh-bench") (big_endian number 8)

-- the three seeds of n bytes, one after the other
abbrev pub bench_seeds : List ℕ → ℕ → List ℕ
bench_seeds prk n = hkdf_expand prk (codes "seeds") (3 * n)

-- the signing key of the three
abbrev pub bench_key : Scheme → List ℕ → List ℕ
bench_key Z prk =
    let seeds = bench_seeds prk Z.n in
    signing_key_bytes Z (part Z.n seeds 0) (part Z.n seeds 1) (part Z.n seeds 2)

-- message i has 32 to 128 bytes
abbrev pub message_size : ℕ → ℕ
message_size i = 32 + (61 * i) % 97

abbrev pub bench_message : List ℕ → ℕ → List ℕ
bench_message prk i = hkdf_expand prk (codes "message" ++ big_endian i 4) (message_size i)

-- its signature, with an empty context and no randomizer
abbrev pub bench_signature : Scheme → List ℕ → ℕ → List ℕ
bench_signature Z prk i =
    signature_of Z (bench_key Z prk) None (frame [] (bench_message prk i))

-- whether that is accepted under the verifying key, which is the last 2n bytes of the signing key
abbrev pub bench_accepts : Scheme → List ℕ → ℕ → Bool
bench_accepts Z prk i =
    let key = drop (2 * Z.n) (bench_key Z prk) in
    is_valid Z Pure key [] (bench_message prk i) (bench_signature Z prk i)

-- how many of the first signatures are accepted
unfoldable pub accepted_count : Scheme → List ℕ → ℕ → ℕ
accepted_count Z prk zero = 0
accepted_count Z prk (suc i) =
    accepted_count Z prk i + (if bench_accepts Z prk i then 1 else 0)

-- the first signatures, one after the other
abbrev pub bench_signatures : Scheme → List ℕ → ℕ → List ℕ
bench_signatures Z prk count = joined (λ i. bench_signature Z prk i) count

-- the three lines of the report
unfoldable pub head_line : Bench → List ℕ
head_line bench =
    codes "bench " ++ name_of bench.set ++ codes " " ++ decimal bench.number ++ codes " "
    ++ decimal bench.count ++ codes "\n"

abbrev pub digest_line : List ℕ → List ℕ
digest_line digest = codes "digest " ++ encode_lower digest ++ codes "\n"

abbrev pub counts_line : ℕ → ℕ → List ℕ
counts_line signed accepted =
    codes "signed " ++ decimal signed ++ codes " accepted " ++ decimal accepted ++ codes "\n"

-- what is known once all is signed and verified: the digest of all signatures, and the numbers of
-- those that were made and of those that are accepted
unfoldable pub outcome_lines : Scheme → List ℕ → ℕ → List ℕ
outcome_lines Z prk count =
    digest_line (sha256 (bench_signatures Z prk count))
    ++ counts_line count (accepted_count Z prk count)

abbrev pub report_in : Scheme → Bench → List ℕ
report_in Z bench = head_line bench ++ outcome_lines Z (bench_prk bench.number) bench.count

abbrev pub bench_report : Bench → List ℕ
bench_report bench = report_in (scheme_for bench.set) bench

-- the report was written: whole with status 0, and a front of it with status 4 or 6
abbrev pub TellsBench : Option (List ℕ) → Option (List ℕ) → ℕ → Bench → Type 0
TellsBench taken taken' status bench =
    ((status ≡ 0) × Appends taken taken' (bench_report bench))
    ⊎ (((status ≡ 4) ⊎ (status ≡ 6)) × TakesFront taken taken' (bench_report bench))
