-- Names of tiles and bundles, from which their numbers are read back.
use Rattle.std.proofs.Common.{◌≡◌, ◌∙◌, ◌+◌, ◌-◌, ◌*◌, ◌/◌, ◌%◌, ◌<◌, ◌^◌, ℕ, Bool, true, false, List, [], ◌∷◌, ◌++◌, refl, sym, ap, arith, append_assoc, codes, decimal, length, drop, get_or}
use Rattle.std.specs.Prelude.{◌==◌, if◌then◌else◌}
use Rattle.std.specs.List.{flat_map}
use Rattle.std.proofs.lemmas.Bool.{ne_eqb}
use Rattle.std.proofs.lemmas.Bool.Decides.{Decides-eqb}
use Rattle.std.proofs.lemmas.Fmt.{decimal_digit, decimal_injective}
use Rattle.std.proofs.lemmas.List.{drop_at}
use Rattle.std.proofs.Math.Nat.{div-add-mod}
use Rattle.log_tiles.specs.Names.{bundle_path, group_powers, group_text, index_text, three_digits, tile_path, width_text}

-- the number that digits stand for, behind those before; an `x` and a slash are passed over, and a dot ends it
reads : ℕ → List ℕ → ℕ
reads v [] = v
reads v (c ∷ cs) =
    if c == 46 then v
    else if c == 47 then reads v cs
    else if c == 120 then reads v cs
    else reads (v * 10 + (c - 48)) cs

digit_read : (v d : ℕ) (rest : List ℕ) → d < 10 → reads v ((48 + d) ∷ rest) ≡ reads (v * 10 + d) rest
unfolding reads
digit_read v d rest low =
    let dot = ne_eqb (48 + d) 46 (λ e. omega (arith, e, low)) in
    let slash = ne_eqb (48 + d) 47 (λ e. omega (arith, e, low)) in
    let mark = ne_eqb (48 + d) 120 (λ e. omega (arith, e, low)) in
    let value : 48 + d - 48 ≡ d = omega arith in
    rw (dot, slash, mark, value) refl

tenth : (n : ℕ) → n < 1000 → n / 100 < 10
tenth n low = grind (arith, div-add-mod n 100)

three_value : (n v : ℕ) → ((v * 10 + n / 100) * 10 + n / 10 % 10) * 10 + n % 10 ≡ v * 1000 + n
three_value n v = omega (arith, div-add-mod n 100, div-add-mod n 10, div-add-mod (n / 10) 10)

three_read : (v n : ℕ) (rest : List ℕ) → n < 1000 → reads v (three_digits n ++ rest) ≡ reads (v * 1000 + n) rest
three_read v n rest low =
    digit_read v (n / 100) ((48 + n / 10 % 10) ∷ (48 + n % 10) ∷ rest) (tenth n low)
    ∙ digit_read (v * 10 + n / 100) (n / 10 % 10) ((48 + n % 10) ∷ rest) (omega arith)
    ∙ digit_read ((v * 10 + n / 100) * 10 + n / 10 % 10) (n % 10) rest (omega arith)
    ∙ ap (λ (k : ℕ). reads k rest) (three_value n v)

group_by : (v n : ℕ) (rest : List ℕ) (b : Bool) → (n == 0) ≡ b → v ≡ n / 1000
    → reads v ((if b then [] else codes "x" ++ three_digits (n % 1000) ++ codes "/") ++ rest) ≡ reads n rest
unfolding reads
group_by v n rest true is before =
    let none : n ≡ 0 = (Decides-eqb n 0).0 is in
    ap (λ (k : ℕ). reads k rest) (omega (arith, none, before))
group_by v n rest false is before =
    three_read v (n % 1000) (47 ∷ rest) (omega arith)
    ∙ ap (λ (k : ℕ). reads k rest) (omega (arith, before, div-add-mod n 1000))

group_read : (v n : ℕ) (more rest : List ℕ) → v ≡ n / 1000 → reads v ((group_text n ++ more) ++ rest) ≡ reads n (more ++ rest)
group_read v n more rest before =
    ap (reads v) (append_assoc (group_text n) more rest) ∙ group_by v n (more ++ rest) (n == 0) refl before

index_read : (i : ℕ) (rest : List ℕ) → i < 2 ^ 64 → reads 0 (index_text i ++ rest) ≡ reads i rest
index_read i rest low =
    let last : List ℕ = three_digits (i % 1000) ++ rest in
    ap (reads 0) (append_assoc (flat_map (λ power. group_text (i / power)) group_powers) (three_digits (i % 1000)) rest)
    ∙ group_read 0 (i / 1000000000000000000) (group_text (i / 1000000000000000) ++ (group_text (i / 1000000000000) ++ (group_text (i / 1000000000) ++ (group_text (i / 1000000) ++ (group_text (i / 1000) ++ []))))) last (omega (arith, low))
    ∙ group_read (i / 1000000000000000000) (i / 1000000000000000) (group_text (i / 1000000000000) ++ (group_text (i / 1000000000) ++ (group_text (i / 1000000) ++ (group_text (i / 1000) ++ [])))) last (omega arith)
    ∙ group_read (i / 1000000000000000) (i / 1000000000000) (group_text (i / 1000000000) ++ (group_text (i / 1000000) ++ (group_text (i / 1000) ++ []))) last (omega arith)
    ∙ group_read (i / 1000000000000) (i / 1000000000) (group_text (i / 1000000) ++ (group_text (i / 1000) ++ [])) last (omega arith)
    ∙ group_read (i / 1000000000) (i / 1000000) (group_text (i / 1000) ++ []) last (omega arith)
    ∙ group_read (i / 1000000) (i / 1000) [] last (omega arith)
    ∙ three_read (i / 1000) (i % 1000) rest (omega arith)
    ∙ ap (λ (k : ℕ). reads k rest) (omega (arith, div-add-mod i 1000))

width_by : (i w : ℕ) (b : Bool) → reads i (if b then [] else codes ".p/" ++ decimal w) ≡ i
unfolding reads
width_by i w true = refl
width_by i w false = refl

text_read : (i w : ℕ) → i < 2 ^ 64 → reads 0 (index_text i ++ width_text w) ≡ i
text_read i w low = index_read i (width_text w) low ∙ width_by i w (w == 256)

widths : (w v : ℕ) (b d : Bool) → (w == 256) ≡ b → (v == 256) ≡ d → w < 2 ^ 64 → v < 2 ^ 64
    → (if b then [] else codes ".p/" ++ decimal w) ≡ (if d then [] else codes ".p/" ++ decimal v) → w ≡ v
widths w v true true a b lw lv same = (Decides-eqb w 256).0 a ∙ sym ((Decides-eqb v 256).0 b)
widths w v true false a b lw lv same = absurd (cc same)
widths w v false true a b lw lv same = absurd (cc same)
widths w v false false a b lw lv same = decimal_injective w v lw lv (ap (drop 3) same)

-- an index and a width have a text of their own
pub index_and_width : (i w j v : ℕ) → i < 2 ^ 64 → j < 2 ^ 64 → w < 2 ^ 64 → v < 2 ^ 64
    → index_text i ++ width_text w ≡ index_text j ++ width_text v → (i ≡ j) × (w ≡ v)
index_and_width i w j v li lj lw lv same =
    let index : i ≡ j = sym (text_read i w li) ∙ ap (reads 0) same ∙ text_read j v lj in
    let here : index_text i ++ width_text w ≡ index_text i ++ width_text v
    = same ∙ ap (λ (k : ℕ). index_text k ++ width_text v) (sym index) in
    let behind : width_text w ≡ width_text v
    = sym (drop_at (index_text i) (width_text w) (length (index_text i)) refl)
    ∙ ap (drop (length (index_text i))) here
    ∙ drop_at (index_text i) (width_text v) (length (index_text i)) refl in
    (index, widths w v (w == 256) (v == 256) refl refl lw lv behind)

tile_is : (l i w : ℕ) → l < 10 → tile_path l i w ≡ codes "tile/" ++ (48 + l) ∷ 47 ∷ (index_text i ++ width_text w)
tile_is l i w low =
    ap (λ (d : List ℕ). codes "tile/" ++ d ++ codes "/" ++ index_text i ++ width_text w) (decimal_digit l low)

pub tiles_differ : (l i w m j v : ℕ) → l < 10 → m < 10 → i < 2 ^ 64 → j < 2 ^ 64 → w < 2 ^ 64 → v < 2 ^ 64
    → tile_path l i w ≡ tile_path m j v → (l ≡ m) × (i ≡ j) × (w ≡ v)
tiles_differ l i w m j v ll lm li lj lw lv same =
    let text : codes "tile/" ++ (48 + l) ∷ 47 ∷ (index_text i ++ width_text w)
    ≡ codes "tile/" ++ (48 + m) ∷ 47 ∷ (index_text j ++ width_text v)
    = sym (tile_is l i w ll) ∙ same ∙ tile_is m j v lm in
    let level : 48 + l ≡ 48 + m = ap (λ (t : List ℕ). get_or t 5 0) text in
    let rest = index_and_width i w j v li lj lw lv (ap (drop 7) text) in
    (omega (arith, level), rest.0, rest.1)

pub bundles_differ : (i w j v : ℕ) → i < 2 ^ 64 → j < 2 ^ 64 → w < 2 ^ 64 → v < 2 ^ 64
    → bundle_path i w ≡ bundle_path j v → (i ≡ j) × (w ≡ v)
bundles_differ i w j v li lj lw lv same =
    index_and_width i w j v li lj lw lv (ap (drop 13) same)

pub kinds_differ : (l i w j v : ℕ) → l < 10 → tile_path l i w ≡ bundle_path j v → ⊥
kinds_differ l i w j v low same =
    let at : 48 + l ≡ 101 = ap (λ (t : List ℕ). get_or t 5 0) (sym (tile_is l i w low) ∙ same) in
    absurd (omega (arith, at, low))

pub heads_differ : (level index width : ℕ) → (tile_path level index width ≡ codes "checkpoint" → ⊥)
    × (bundle_path index width ≡ codes "checkpoint" → ⊥)
heads_differ level index width = (
  λ same. let at : 116 ≡ 99 = ap (λ (t : List ℕ). get_or t 0 0) same in absurd (omega (arith, at)),
  λ same. let at : 116 ≡ 99 = ap (λ (t : List ℕ). get_or t 0 0) same in absurd (omega (arith, at)),
)
