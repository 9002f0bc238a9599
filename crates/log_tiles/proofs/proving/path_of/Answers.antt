use Rattle.std.proofs.Common.{◌≡◌, ◌∙◌, ap, sym, subst, Err, arith, inl, inr, take}
use Rattle.std.proofs.lemmas.Bool.{cases_lt}
use Rattle.merkle_store.specs.Errors.{IsUngivenOf}
use Rattle.merkle_store.specs.declared.proving.ProveError.TheVariants.{Differs as StoreDiffers, Range as StoreRange}
use Rattle.merkle_tree.specs.Tree.{inclusion_path, tree_root}
use Rattle.log_tiles.proofs.Told.{digest_at, digest_count, earlier}
use Rattle.log_tiles.specs.Source.{first_digests, tile_under}
use Rattle.log_tiles.proofs.proving.path_of.Goals as goal

pub prove_presence-requires : goal.prove_presence-requires
prove_presence-requires g c = omega (arith, digest_count (g.S.TileSource.digest c.new.result.source.now) c.args.size)

pub returns-in-Ok-clause-path : goal.returns-in-Ok-clause-path
returns-in-Ok-clause-path g c = λ t.
    let size = c.args.size in
    let digest = g.S.TileSource.digest in
    c.in-Ok.ensures.path t
    ∙ ap (λ q. inclusion_path g.H.TreeHash.hash q c.args.index)
    (earlier (digest c.new.result.source.now) size size (omega arith) ∙ ap (λ s. first_digests (digest s) size) c.new.ensures.source)

pub tile_error-requires : goal.tile_error-requires
tile_error-requires g c =
    subst (λ n. IsUngivenOf (λ height index. g.S.TileSource.has c.new.result.source.now (tile_under c.args.size height index)) n c.in-Err.error) (digest_count (g.S.TileSource.digest c.new.result.source.now) c.args.size) c.in-Err.ensures.cause

pub returns-clause-differs : goal.returns-clause-differs
returns-clause-differs g c = λ t root leaf is.
    let size = c.args.size in
    let index = c.args.index in
    let digest = g.S.TileSource.digest in
    let kept = digest c.new.result.source.now in
    let error : c.in-Err.error ≡ StoreDiffers = c.tile_error.ensures.differs (cc is) in
    let whole : take size (first_digests kept size) ≡ first_digests (digest c.args.source.now) size
    = earlier kept size size (omega arith) ∙ ap (λ s. first_digests (digest s) size) c.new.ensures.source in
    elim (cases_lt index size) [
      | inl inside ↦ c.in-Err.ensures.differs t
          (root ∙ ap (tree_root g.H.TreeHash.hash) (sym whole))
          (leaf ∙ sym (digest_at kept size index inside ∙ ap (λ s. digest s index) c.new.ensures.source))
          (ap Err error)
      | inr past ↦
          let range : Err c.in-Err.error ≡ Err StoreRange = c.in-Err.ensures.range.1 past in
          let never : StoreDiffers ≡ StoreRange = sym error ∙ cc range in
          cc never
    ]
