-- What becomes full has a name of its own, whatever the tiles are.
use Rattle.std.proofs.Common.{◌≡◌, ◌∙◌, ◌+◌, ◌<◌, ◌^◌, ℕ, suc, List, [], ◌∷◌, ◌++◌, Some, refl, sym, ap, subst, arith, map, string_bytes}
use Rattle.std.specs.List.{AllByRecursion}
use Rattle.std.proofs.lemmas.List.{append-nil, append_assoc, map-append}
use Rattle.log_tiles.specs.Names.{tile_path}
use Rattle.log_tiles.specs.Shape.{last_tile}
use Rattle.log_tiles.specs.Tiles.{Tiles, full_levels, last_bytes}
use Rattle.log_tiles.specs.declared.names.Tile.{Tile}
use Rattle.merkle_tree.specs.Hashes.{HashFunction}
use Rattle.log_files.specs.Appending.{Named, full_bundle, named, of_levels, partial_bundle, partial_files, tile_files}
use Rattle.log_files.specs.Names.{AreSuch, Differ, HaveFullNames, IsFullBundle, IsFullTile, IsName, PutNames, names_of}
use Rattle.log_files.specs.declared.appending.LogFile.{LogFile}
use Rattle.log_files.proofs.Apart.{all_finished, bundle_pushed, tile_pushed}
use Rattle.log_files.proofs.Levels.{file_list, one_tile}

pub none_put : (xs : List LogFile) → PutNames xs [] xs
none_put xs = sym (append-nil (names_of (map named xs)))

-- the file of a tile is put at the end
pub tile_named : (H : HashFunction) (q : List (List ℕ)) (size level : ℕ) (tile : Tile) (old new : List LogFile)
    (file : LogFile) → last_tile level size ≡ Some tile → new ≡ old ++ file ∷ []
    → string_bytes file.name ≡ tile_path tile.level tile.index tile.width
    → PutNames old (tile_files H size q level) new
tile_named H q size level tile old new file is put path =
    let one : file_list (string_bytes file.name) (last_bytes H level q) ≡ tile_files H size q level
    = one_tile H q size level tile (string_bytes file.name) (last_bytes H level q) is path refl in
    ap (λ (l : List LogFile). names_of (map named l)) put
    ∙ ap names_of (map-append named old (file ∷ []))
    ∙ map-append (λ (f : Named). f.name) (map named old) (map named (file ∷ []))
    ∙ ap (λ (l : List Named). names_of (map named old) ++ names_of l) one

pub no_levels_named : (files : ℕ → List Named) (xs : List LogFile) → PutNames xs (of_levels files 0) xs
unfolding of_levels
no_levels_named files xs = none_put xs

-- the files of one more level of tiles that are the same as before
pub level_named : (files : Tiles → List (List ℕ) → ℕ → List Named) (old now : Tiles) (q : List (List ℕ))
    (xs ys zs : List LogFile) (level : ℕ) → now ≡ old → PutNames xs (of_levels (files old q) level) ys
    → ((q : List (List ℕ)) → PutNames ys (files now q level) zs)
    → PutNames xs (of_levels (files old q) (level + 1)) zs
unfolding of_levels
level_named files old now q xs ys zs level same before after =
    let next : level + 1 ≡ suc level = omega arith in
    let put : PutNames ys (files old q level) zs
    = subst (λ (t : Tiles). (q : List (List ℕ)) → PutNames ys (files t q level) zs) same after q in
    let more : PutNames xs (of_levels (files old q) level ++ files old q level) zs
    = put ∙ ap (λ (l : List (List ℕ)). l ++ names_of (files old q level)) before
    ∙ append_assoc (names_of (map named xs)) (names_of (of_levels (files old q) level)) (names_of (files old q level))
    ∙ ap (λ (l : List (List ℕ)). names_of (map named xs) ++ l)
    (sym (map-append (λ (f : Named). f.name) (of_levels (files old q) level) (files old q level))) in
    rw next more

-- files with the same names are such files, too
same_names : (P : List ℕ → Type 0) (xs ys : List Named) → names_of xs ≡ names_of ys → AreSuch P xs → AreSuch P ys
same_names P xs ys same are = record {
  such = subst (λ (l : List (List ℕ)). AllByRecursion P l) same are.such;
  differ = subst (λ (l : List (List ℕ)). Differ l) same are.differ;
}

-- one more entry
pub pushed : (H : HashFunction) (q : List (List ℕ)) (count : ℕ) (bytes : List ℕ)
    (bundles tiles more_bundles more_tiles : List LogFile) → count + 1 < 2 ^ 64
    → map named more_bundles ≡ map named bundles ++ full_bundle (count + 1) bytes
    → PutNames tiles (of_levels (tile_files H (count + 1) q) (full_levels (count + 1))) more_tiles
    → HaveFullNames count bundles tiles → HaveFullNames (count + 1) more_bundles more_tiles
pushed H q count bytes bundles tiles more_bundles more_tiles low put names are =
    let new : List Named = of_levels (tile_files H (count + 1) q) (full_levels (count + 1)) in
    record {
      bundles_are = subst (λ (l : List Named). AreSuch (IsFullBundle (count + 1)) l) (sym put)
          (bundle_pushed count (map named bundles) bytes low are.bundles_are);
      tiles_are = same_names (IsFullTile (count + 1)) (map named tiles ++ new) (map named more_tiles)
          (map-append (λ (f : Named). f.name) (map named tiles) new ∙ sym names)
          (tile_pushed H count (map named tiles) q low are.tiles_are);
    }

-- what isn't full is put behind
pub finished : (H : HashFunction) (q : List (List ℕ)) (count : ℕ) (bytes : List ℕ)
    (bundles tiles last_bundles last_tiles all : List LogFile) → count < 2 ^ 64
    → map named last_bundles ≡ map named bundles ++ partial_bundle count bytes
    → PutNames tiles (of_levels (partial_files H count q) 8) last_tiles → all ≡ last_bundles ++ last_tiles
    → HaveFullNames count bundles tiles → AreSuch IsName (map named all)
finished H q count bytes bundles tiles last_bundles last_tiles all low put names joined are =
    let front : List Named = map named bundles ++ partial_bundle count bytes in
    let new : List Named = of_levels (partial_files H count q) 8 in
    let back : List Named = map named tiles ++ new in
    let tile_names : names_of back ≡ names_of (map named last_tiles)
    = map-append (λ (f : Named). f.name) (map named tiles) new ∙ sym names in
    let same : names_of (front ++ back) ≡ names_of (map named all)
    = map-append (λ (f : Named). f.name) front back
    ∙ ap (λ (l : List (List ℕ)). names_of front ++ l) tile_names
    ∙ ap (λ (l : List Named). names_of l ++ names_of (map named last_tiles)) (sym put)
    ∙ sym (map-append (λ (f : Named). f.name) (map named last_bundles) (map named last_tiles))
    ∙ ap names_of (sym (map-append named last_bundles last_tiles))
    ∙ ap (λ (l : List LogFile). names_of (map named l)) (sym joined) in
    same_names IsName (front ++ back) (map named all) same
    (all_finished H count (map named bundles) (map named tiles) bytes q low are.bundles_are are.tiles_are)

-- the same by the steps of a push: n entries before, and as many more at each step
pub one_pushed : (H : HashFunction) (n a b d full : ℕ) (bytes : List ℕ)
    (bundles tiles bundles_1 tiles_1 bundles_2 tiles_2 : List LogFile) → n + 1 < 2 ^ 64 → a ≡ n + 1 → b ≡ a → d ≡ b
    → full ≡ full_levels (n + 1) → map named bundles_1 ≡ map named bundles ++ full_bundle a bytes
    → bundles_2 ≡ bundles_1 → tiles_1 ≡ tiles
    → ((q : List (List ℕ)) → PutNames tiles_1 (of_levels (tile_files H b q) full) tiles_2)
    → HaveFullNames n bundles tiles → HaveFullNames d bundles_2 tiles_2
one_pushed H n a b d full bytes bundles tiles bundles_1 tiles_1 bundles_2 tiles_2 low a_is b_is d_is full_is put same_bundles same_tiles names are =
    let new : map named bundles_2 ≡ map named bundles ++ full_bundle (n + 1) bytes
    = ap (λ (l : List LogFile). map named l) same_bundles ∙ put
    ∙ ap (λ (k : ℕ). map named bundles ++ full_bundle k bytes) a_is in
    let from : PutNames tiles (of_levels (tile_files H b []) full) tiles_2
    = subst (λ (l : List LogFile). PutNames l (of_levels (tile_files H b []) full) tiles_2) same_tiles (names []) in
    let levels : PutNames tiles (of_levels (tile_files H b []) (full_levels (n + 1))) tiles_2
    = subst (λ (k : ℕ). PutNames tiles (of_levels (tile_files H b []) k) tiles_2) full_is from in
    let more : PutNames tiles (of_levels (tile_files H (n + 1) []) (full_levels (n + 1))) tiles_2
    = subst (λ (k : ℕ). PutNames tiles (of_levels (tile_files H k []) (full_levels (n + 1))) tiles_2) (b_is ∙ a_is) levels in
    subst (λ (k : ℕ). HaveFullNames k bundles_2 tiles_2) (sym (d_is ∙ b_is ∙ a_is))
    (pushed H [] n bytes bundles tiles bundles_2 tiles_2 low new more are)

-- and by those of the end
pub one_finished : (H : HashFunction) (n a : ℕ) (bytes : List ℕ)
    (bundles tiles bundles_1 tiles_1 bundles_2 tiles_2 all : List LogFile) → n < 2 ^ 64 → a ≡ n
    → map named bundles_1 ≡ map named bundles ++ partial_bundle n bytes → bundles_2 ≡ bundles_1 → tiles_1 ≡ tiles
    → ((q : List (List ℕ)) → PutNames tiles_1 (of_levels (partial_files H a q) 8) tiles_2)
    → all ≡ bundles_2 ++ tiles_2 → HaveFullNames n bundles tiles → AreSuch IsName (map named all)
one_finished H n a bytes bundles tiles bundles_1 tiles_1 bundles_2 tiles_2 all low a_is put same_bundles same_tiles names joined are =
    let from : PutNames tiles (of_levels (partial_files H a []) 8) tiles_2
    = subst (λ (l : List LogFile). PutNames l (of_levels (partial_files H a []) 8) tiles_2) same_tiles (names []) in
    let more : PutNames tiles (of_levels (partial_files H n []) 8) tiles_2
    = subst (λ (k : ℕ). PutNames tiles (of_levels (partial_files H k []) 8) tiles_2) a_is from in
    finished H [] n bytes bundles tiles bundles_2 tiles_2 all low (ap (λ (l : List LogFile). map named l) same_bundles ∙ put) more joined are
