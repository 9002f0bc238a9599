use Rattle.std.proofs.Common.{◌≡◌, ℕ, ◌+◌, ◌-◌, ◌*◌, ◌%◌, ◌≤◌, List, [], ◌++◌, length, take, drop, get_or, inl, inr, sym, ap, subst, ◌∙◌, arith}
use Rattle.std.proofs.lemmas.Bool.{cases_lt}
use Rattle.log_tiles.proofs.Rows.{part_before, part_behind, part_here, put_is}
use Rattle.log_tiles.specs.Tiles.{IsLastTile, Tiles, hash_count, last_width}
use Rattle.log_tiles.proofs.growing.GrowingTiles.put_tile.Goals as goal

pub returns-clause-tile : goal.returns-clause-tile
returns-clause-tile g c = λ _ q size is.
    let H = g.H.TreeHash.hash in
    let places = c.self.inside.hashes in
    let row = c.args.hashes.now in
    let a = 256 * c.args.level in
    let k = a + c.last_width-width.result - a in
    let low : a ≤ length places = omega (arith, c.self.invariant, c.requires) in
    let now = take a places ++ (row ++ drop k (drop a places)) in
    let width : length row ≡ last_width (hash_count c.args.level (length q))
    = omega (arith, c.if-hashes-width.false, c.last_width-width.ensures.value, ap (λ n. last_width (hash_count c.args.level n)) size) in
    let put : IsLastTile H (record { count = c.args.self.now.count; hashes = now }) q c.args.level
    = put_is H (record { count = c.args.self.now.count; hashes = now }) q row c.args.level width is
    (λ x small. part_here a k x places row low small) in
    λ i inside last. ap (λ (r : List (List ℕ)). get_or (take a places ++ (r ++ drop k (drop a places))) (a + i % 256) []) c.copy_from_slice.ensures.after ∙ put i inside last

beyond : (other level : ℕ) → (other ≡ level → ⊥) → level ≤ other → level + 1 ≤ other
beyond other level apart more = elim (cases_lt level other) [
  | inl less ↦ omega (arith, less)
  | inr back ↦ absurd (apart (omega (arith, more, back)))
]

pub returns-clause-others : goal.returns-clause-others
returns-clause-others g c = λ q other apart was i inside last.
    let places = c.self.inside.hashes in
    let a = 256 * c.args.level in
    let k = a + c.last_width-width.result - a in
    let low : a ≤ length places = omega (arith, c.self.invariant, c.requires) in
    let before : get_or places (256 * other + i % 256) [] ≡ _ = subst (λ (t : Tiles). IsLastTile g.H.TreeHash.hash t q other) (sym c.self.view_is) was i inside last in
    let new = c.copy_from_slice.new.self in
    let size : length new ≡ k = omega (arith, ap (λ (r : List (List ℕ)). length r) c.copy_from_slice.ensures.after, c.if-hashes-width.false) in
    elim (cases_lt other c.args.level) [
      | inl less ↦ part_before a k (256 * other + i % 256) places new low (omega (arith, less)) ∙ before
      | inr more ↦
          let far : a + k ≤ 256 * other + i % 256 = omega (arith, c.last_width-width.ensures.few, beyond other c.args.level apart more) in
          part_behind a k (256 * other + i % 256) places new low size far ∙ before
    ]
