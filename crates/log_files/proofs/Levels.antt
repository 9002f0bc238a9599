-- The files of one more level.
use Rattle.std.proofs.Common.{◌≡◌, ◌∙◌, sym, ap, subst, ℕ, zero, suc, List, [], ◌∷◌, ◌++◌, ◌+◌, ◌-◌, ◌≤◌, ◌/◌, ◌%◌, ◌==◌, arith, Bool, true, false, map, Result, Ok, Err, OnOk, None, Some, if◌then◌else◌, string_bytes}
use Rattle.std.proofs.lemmas.List.{append-nil, append_assoc, map-append}
use Rattle.log_files.specs.Appending.{Named, named, of_levels, tile_files}
use Rattle.log_files.specs.declared.appending.LogFile.{LogFile}
use Rattle.log_tiles.specs.Names.{tile_path}
use Rattle.log_tiles.specs.Shape.{last_tile}
use Rattle.log_tiles.specs.Tiles.{AreTilesOf, Tiles, full_within, hash_count, last_bytes}
use Rattle.log_tiles.specs.declared.names.Tile.{Tile}
use Rattle.merkle_tree.specs.Hashes.{HashFunction}

pub no_levels : (files : ℕ → List Named) (xs : List Named) → xs ≡ xs ++ of_levels files 0
unfolding of_levels
no_levels files xs = sym (append-nil xs)

one_more : (files : ℕ → List Named) (xs ys zs : List Named) (level : ℕ) → ys ≡ xs ++ of_levels files level
    → zs ≡ ys ++ files level → zs ≡ xs ++ of_levels files (suc level)
unfolding of_levels
one_more files xs ys zs level before after =
    after ∙ ap (λ l. l ++ files level) before ∙ append_assoc xs (of_levels files level) (files level)

-- the files of a level of tiles that are the same as before
pub level_more : (H : HashFunction) (files : Tiles → List (List ℕ) → ℕ → List Named) (old now : Tiles)
    (q : List (List ℕ)) (xs ys zs : List Named) (level : ℕ) → now ≡ old → AreTilesOf H old q
    → ys ≡ xs ++ of_levels (files old q) level
    → ((q : List (List ℕ)) → AreTilesOf H now q → zs ≡ ys ++ files now q level)
    → zs ≡ xs ++ of_levels (files old q) (level + 1)
level_more H files old now q xs ys zs level same are before after =
    let next : level + 1 ≡ suc level = omega arith in
    let put : zs ≡ ys ++ files old q level
    = subst (λ (t : Tiles). (q : List (List ℕ)) → AreTilesOf H t q → zs ≡ ys ++ files t q level) same after q are in
    rw next (one_more (files old q) xs ys zs level before put)

-- so many levels of tiles are made full at most
pub few : (levels count : ℕ) → full_within levels count ≤ levels
unfolding full_within
few zero count = omega arith
few (suc levels) count =
    elim (count % 256 == 0) as (λ (b : Bool). (if b then 1 + full_within levels (count / 256) else 0) ≤ suc levels) [
      | true ↦ omega (arith, few levels (count / 256))
      | false ↦ omega arith
    ]

abbrev pub file_list : List ℕ → List ℕ → List Named
file_list name bytes = record { name = name; bytes = bytes } ∷ []

same_file : (n m b d : List ℕ) → n ≡ m → b ≡ d → file_list n b ≡ file_list m d
same_file n m b d name bytes = ap (λ (x : List ℕ). file_list x b) name ∙ ap (file_list m) bytes

pub one_tile : (H : HashFunction) (q : List (List ℕ)) (size level : ℕ) (tile : Tile) (name bytes : List ℕ)
    → last_tile level size ≡ Some tile → name ≡ tile_path tile.level tile.index tile.width
    → bytes ≡ last_bytes H level q → file_list name bytes ≡ tile_files H size q level
one_tile H q size level tile name bytes is path same =
    let count = hash_count level size in
    let here : Tile = record { level = level; index = (count - 1) / 256; width = (count - 1) % 256 + 1 } in
    elim (count == 0) as (λ (b : Bool). (if b then None else Some here) ≡ Some tile
    → file_list name bytes ≡ (if b then [] else file_list (tile_path level ((count - 1) / 256) ((count - 1) % 256 + 1)) (last_bytes H level q))) [
      | true ↦ λ none. absurd (cc none)
      | false ↦ λ some.
          let t : here ≡ tile = cc some in
          same_file name (tile_path here.level here.index here.width) bytes (last_bytes H level q)
          (path ∙ ap (λ (t : Tile). tile_path t.level t.index t.width) (sym t)) same
    ] is

-- the file of a tile is put at the end
pub tile_put : (H : HashFunction) (q : List (List ℕ)) (size level : ℕ) (tile : Tile) (old new : List LogFile)
    (file : LogFile) → last_tile level size ≡ Some tile → new ≡ old ++ file ∷ []
    → string_bytes file.name ≡ tile_path tile.level tile.index tile.width → file.bytes.items ≡ last_bytes H level q
    → map named new ≡ map named old ++ tile_files H size q level
tile_put H q size level tile old new file is put path same =
    ap (map named) put ∙ map-append named old (file ∷ [])
    ∙ ap (λ l. map named old ++ l) (one_tile H q size level tile (string_bytes file.name) file.bytes.items is path same)

pub on_ok : {T E P Q : Type 0} (result : Result T E) → (P → Q) → OnOk result P → OnOk result Q
on_ok (Ok x) more holds = more holds
on_ok (Err e) more holds = tt
