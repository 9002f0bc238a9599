use Rattle.std.proofs.Common.{rules, ◌≡◌, ◌≤◌, ◌+◌, ◌-◌, suc, List, ℕ, refl, length, drop, slice_index, subst, ◌∙◌, arith, length-drop}
use Rattle.slh_dsa_c.proofs.Entries.{after_place, byte_at, behind, place_step, whole}
use Rattle.slh_dsa_c.proofs.manifests.place_of.Goals as goal
use Rattle.slh_manifest.specs.Checking.{count_of}
use Rattle.slh_manifest.specs.Entries.{Stand}

-- the entry at a place is whole
ends : (manifest : List ℕ) (left count at : ℕ) → left ≡ suc count → Stand left (drop at manifest) → at + (slice_index manifest at + 41) ≤ length manifest
ends manifest left count at some stand =
    let fits = whole left count stand.last (drop at manifest) some stand.are in
    omega (arith, fits, byte_at manifest at, length-drop at manifest)

stand_next : (manifest : List ℕ) (left count at next : ℕ) → left ≡ suc count → next ≡ at + (slice_index manifest at + 41) → Stand left (drop at manifest) → Stand count (drop next manifest)
stand_next manifest left count at next some is stand =
    subst (λ (b : List ℕ). Stand count b) (after_place manifest at next is) (record {
      last = _;
      are = behind left count stand.last (drop at manifest) some stand.are;
    })

pub bounds-manifest-at : goal.bounds-manifest-at
bounds-manifest-at c =
    let n = count_of c.args.manifest.now in
    let fits = ends c.args.manifest.now (n - c.each_entry.counter) (n - (c.each_entry.counter + 1)) c.each_entry.at (omega (arith, c.each_entry-test.true, c.requires.inside)) c.each_entry.invariant.stand in
    omega (arith, fits)

pub overflow_add-at-in-each_entry : goal.overflow_add-at-in-each_entry
overflow_add-at-in-each_entry c =
    let n = count_of c.args.manifest.now in
    let fits = ends c.args.manifest.now (n - c.each_entry.counter) (n - (c.each_entry.counter + 1)) c.each_entry.at (omega (arith, c.each_entry-test.true, c.requires.inside)) c.each_entry.invariant.stand in
    search (rules, fits)

pub each_entry-preserved : goal.each_entry-preserved
each_entry-preserved c =
    let m = c.args.manifest.now in
    let at = c.each_entry.at in
    let n = count_of m in
    let next = at + (slice_index m at + 41) in
    record {
      stand = stand_next m (n - c.each_entry.counter) (n - (c.each_entry.counter + 1)) at next (omega (arith, c.each_entry-test.true, c.requires.inside)) refl c.each_entry.invariant.stand;
      place = c.each_entry.invariant.place ∙ place_step m (c.args.number - c.each_entry.counter) (c.args.number - (c.each_entry.counter + 1)) at next (omega (arith, c.each_entry-test.true)) refl;
    }

pub returns-clause-within : goal.returns-clause-within
returns-clause-within c =
    let n = count_of c.args.manifest.now in
    let fits = ends c.args.manifest.now (n - c.args.number) (n - (c.args.number + 1)) c.each_entry.at (omega (arith, c.requires.inside)) (subst (λ k. Stand (n - k) (drop c.each_entry.at c.args.manifest.now)) (omega (arith, c.each_entry-test.false, c.each_entry.auto)) c.each_entry.invariant.stand) in
    omega (arith, fits)
