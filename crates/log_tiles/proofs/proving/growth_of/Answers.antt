use Rattle.std.proofs.Common.{◌≡◌, ◌∙◌, ap, sym, subst, Err, arith, inl, inr, take}
use Rattle.std.proofs.lemmas.Bool.{cases_lt}
use Rattle.merkle_store.specs.Errors.{IsUngivenOf}
use Rattle.merkle_store.specs.declared.proving.ProveError.TheVariants.{Differs as StoreDiffers, Range as StoreRange}
use Rattle.merkle_tree.specs.Consistency.{consistency_proof}
use Rattle.merkle_tree.specs.Tree.{tree_root}
use Rattle.log_tiles.proofs.Told.{digest_count, earlier}
use Rattle.log_tiles.specs.Source.{first_digests, tile_under}
use Rattle.log_tiles.proofs.proving.growth_of.Goals as goal

pub prove_growth-requires : goal.prove_growth-requires
prove_growth-requires g c = omega (arith, digest_count (g.S.TileSource.digest c.new.result.source.now) c.args.size)

pub returns-in-Ok-clause-proof : goal.returns-in-Ok-clause-proof
returns-in-Ok-clause-proof g c = λ t.
    let size = c.args.size in
    let digest = g.S.TileSource.digest in
    c.in-Ok.ensures.proof t
    ∙ ap (λ q. consistency_proof g.H.TreeHash.hash q c.args.old_size)
    (earlier (digest c.new.result.source.now) size size (omega arith) ∙ ap (λ s. first_digests (digest s) size) c.new.ensures.source)

pub tile_error-requires : goal.tile_error-requires
tile_error-requires g c =
    subst (λ n. IsUngivenOf (λ height index. g.S.TileSource.has c.new.result.source.now (tile_under c.args.size height index)) n c.in-Err.error) (digest_count (g.S.TileSource.digest c.new.result.source.now) c.args.size) c.in-Err.ensures.cause

pub returns-clause-differs : goal.returns-clause-differs
returns-clause-differs g c = λ t root old_root is.
    let size = c.args.size in
    let old_size = c.args.old_size in
    let digest = g.S.TileSource.digest in
    let kept = digest c.new.result.source.now in
    let error : c.in-Err.error ≡ StoreDiffers = c.tile_error.ensures.differs (cc is) in
    let whole : take size (first_digests kept size) ≡ first_digests (digest c.args.source.now) size
    = earlier kept size size (omega arith) ∙ ap (λ s. first_digests (digest s) size) c.new.ensures.source in
    elim (cases_lt size old_size) [
      | inl less ↦
          let range : Err c.in-Err.error ≡ Err StoreRange = c.in-Err.ensures.range.1 (inr less) in
          let never : StoreDiffers ≡ StoreRange = sym error ∙ cc range in
          cc never
      | inr more ↦
          let front : take old_size (first_digests kept size) ≡ first_digests (digest c.args.source.now) old_size
          = earlier kept size old_size more ∙ ap (λ s. first_digests (digest s) old_size) c.new.ensures.source in
          c.in-Err.ensures.differs t
          (root ∙ ap (tree_root g.H.TreeHash.hash) (sym whole))
          (old_root ∙ ap (tree_root g.H.TreeHash.hash) (sym front))
          (ap Err error)
    ]
