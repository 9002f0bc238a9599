use Rattle.std.proofs.Common.{◌≡◌, ◌∙◌}
use Rattle.log_files.specs.Names.{checkpoint_path}
use Rattle.slh_log_commands.proofs.Pieces.{head_made, making_new}
use Rattle.slh_log_commands.proofs.writing.put_checkpoint.Goals as goal

pub make_new-requires-clause-permitted : goal.make_new-requires-clause-permitted
make_new-requires-clause-permitted g c = λ t n making.
    let path : c.as_str-path.result.now ≡ checkpoint_path c.args.folder.path.now
    = c.as_str-path.ensures.value ∙ c.in_ok-names.ensures.path in
    c.requires.permitted t n (making_new _ n _ _ _ _ _ path making)

pub returns : goal.returns
returns g c = record {
  head_is_new = λ t.
      let path : c.as_str-path.result.now ≡ checkpoint_path c.args.folder.path.now
      = c.as_str-path.ensures.value ∙ c.in_ok-names.ensures.path in
      head_made _ _ _ _ _ _ _ c.make_new.result path (c.make_new.ensures.files t);
}
