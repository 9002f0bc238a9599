-- What calls on a file system make of the files, one after another.
use Rattle.std.proofs.Common.{◌≡◌, ◌≢◌, ◌∙◌, sym, ap, subst, refl, inl, inr, ℕ, Bool, true, false, List, Option, None, Some, Result, Ok, Err, take, ◌⊎◌}
use Rattle.std.proofs.Common.{length}
use Rattle.std.proofs.Math.Seq.{take-length}
use Rattle.std.proofs.lemmas.Slice.Eq.{bytes_eq-Decides}
use Rattle.std.specs.Str.{bytes_eq}
use Rattle.std.specs.Bool.{Decides}
use Rattle.whole_files.specs.declared.file.Failed.{Failed}
use Rattle.whole_files.specs.declared.file.Mode.{Mode}
use Rattle.whole_files.specs.declared.error.Written.{Written}
use Rattle.whole_files.specs.declared.error.WriteError.{WriteError}
use Rattle.whole_files.specs.declared.error.WriteError.TheVariants.{NotRegular, Taken, Failed as NothingLeft, Left}
use Rattle.whole_files.specs.Files.{Files, Node, Same, Puts, Makes, Changes, Appends, Syncs, longer, settled, new_node}
use Rattle.whole_files.specs.Files.{Moves, Renames, Removes, Creates}
use Rattle.whole_files.specs.Whole.{HasWhole, HasBegun, IsPlacing, IsPlaced, Fills, IsFilling, IsWriting, Places, mode_of}
use Rattle.whole_files.specs.Whole.{TakesAway, Writes, IsWritten, IsWritable, IsMaking, IsMade, MakesNew}
use Rattle.whole_files.specs.Files.{Links, Names}

-- two changes of one file are one
pub changes_twice : (m a n : Files) (path : List ℕ) (f g : Node → Node)
    → ((node : Node) → (f node).id ≡ node.id)
    → Changes m path f a → Changes a path g n → Changes m path (λ node. g (f node)) n
changes_twice m a n path f g keeps one two =
    let was : Some two.node ≡ Some (f one.node) = sym two.was ∙ one.at in
    let is : two.node ≡ f one.node = cc was in
    record {
      node = one.node;
      was = one.was;
      at = two.at ∙ ap (λ x. Some (g x)) is;
      others = λ q ne apart.
          let first : a q ≡ m q = one.others q ne apart in
          two.others q ne (λ b here same. apart b (sym first ∙ here) (same ∙ ap (λ x. x.id) is ∙ keeps one.node)) ∙ first;
    }

-- a file that was just made, and then changed
pub made_then_changed : (m a n : Files) (path : List ℕ) (mode : Mode) (f : Node → Node)
    → (makes : Makes m path mode a) → Changes a path f n → Puts m path (Some (f (new_node mode makes.id))) n
made_then_changed m a n path mode f makes changes =
    let was : Some changes.node ≡ Some (new_node mode makes.id) = sym changes.was ∙ makes.puts.at in
    let is : changes.node ≡ new_node mode makes.id = cc was in
    record {
      at = changes.at ∙ ap (λ x. Some (f x)) is;
      others = λ q ne.
          changes.others q ne (λ b here same. makes.fresh q b (sym (makes.puts.others q ne) ∙ here) (same ∙ ap (λ x. x.id) is))
          ∙ makes.puts.others q ne;
    }

-- a change stays where nothing else is changed
pub changes_same : (m a n : Files) (path : List ℕ) (f : Node → Node) → Changes m path f a → Same a n → Changes m path f n
changes_same m a n path f one same = record {
  node = one.node;
  was = one.was;
  at = same path ∙ one.at;
  others = λ q ne apart. same q ∙ one.others q ne apart;
}

-- all the bytes are the first of them
all_taken : (m n : Files) (path bytes : List ℕ)
    → Changes m path (longer bytes) n → (count : ℕ) × Changes m path (longer (take count bytes)) n
all_taken m n path bytes one =
    (length bytes, subst (λ (b : List ℕ). Changes m path (longer b) n) (sym (take-length bytes)) one)

pub append_is_filling : (m n : Files) (path bytes : List ℕ) (r : Result (Unit {0}) Failed)
    → Appends m path bytes r n → IsFilling m path bytes n
append_is_filling m n path bytes (Ok u) appends = inr (inr (all_taken m n path bytes appends))
append_is_filling m n path bytes (Err e) appends = inr appends

pub sync_is_filling : (m a n : Files) (path bytes : List ℕ) (r : Result (Unit {0}) Failed)
    → Changes m path (longer bytes) a → Syncs a path r n → IsFilling m path bytes n
sync_is_filling m a n path bytes (Ok u) one syncs = inl (changes_twice m a n path (longer bytes) settled (λ _. refl) one syncs)
sync_is_filling m a n path bytes (Err e) one syncs =
    inr (inr (all_taken m n path bytes (changes_same m a n path (longer bytes) one syncs)))

pub sync_fills : (m a n : Files) (path bytes : List ℕ) (r : Result (Unit {0}) Failed)
    → Changes m path (longer bytes) a → Syncs a path r n → Fills m path bytes r n
sync_fills m a n path bytes (Ok u) one syncs = changes_twice m a n path (longer bytes) settled (λ _. refl) one syncs
sync_fills m a n path bytes (Err e) one syncs =
    inr (all_taken m n path bytes (changes_same m a n path (longer bytes) one syncs))

-- a file that was just made is begun
pub begun : (m a n : Files) (path : List ℕ) (mode : Mode) (bytes : List ℕ) (count : ℕ)
    → Makes m path mode a → Changes a path (longer (take count bytes)) n → HasBegun mode bytes (n path)
begun m a n path mode bytes count makes changes =
    let puts = made_then_changed m a n path mode (longer (take count bytes)) makes changes in
    record {
      node = longer (take count bytes) (new_node mode makes.id);
      is = puts.at;
      regular = refl;
      moded = refl;
      count = count;
      begun = refl;
    }

pub whole : (m a n : Files) (path : List ℕ) (mode : Mode) (bytes : List ℕ)
    → Makes m path mode a → Changes a path (λ node. settled (longer bytes node)) n → IsPlaced m path mode bytes n
whole m a n path mode bytes makes changes =
    let puts = made_then_changed m a n path mode (λ node. settled (longer bytes node)) makes changes in
    record {
      free = makes.free;
      whole = record {
        node = settled (longer bytes (new_node mode makes.id));
        is = puts.at;
        regular = refl;
        moded = refl;
        whole = refl;
        synced = refl;
      };
      others = puts.others;
    }

-- what is whole is begun
pub whole_is_begun : (mode : Mode) (bytes : List ℕ) (here : Option Node) → HasWhole mode bytes here → HasBegun mode bytes here
whole_is_begun mode bytes here is = record {
  node = is.node;
  is = is.is;
  regular = is.regular;
  moded = is.moded;
  count = length bytes;
  begun = is.whole ∙ sym (take-length bytes);
}

-- what holds at a path and apart from it holds
pub at_each : (m n : Files) (path q : List ℕ) → n path ≡ m path → (q ≢ path → n q ≡ m q) → n q ≡ m q
at_each m n path q here others =
    elim (bytes_eq q path) as (λ b. Decides b (q ≡ path) → n q ≡ m q) [
      | true ↦ λ d. let is : q ≡ path = d.0 refl in ap n is ∙ here ∙ ap m (sym is)
      | false ↦ λ d. others (λ is. let no : false ≡ true = d.1 is in cc)
    ] (bytes_eq-Decides q path)

placing_same : (m a n : Files) (path : List ℕ) (mode : Mode) (bytes : List ℕ) → IsPlacing m path mode bytes a → Same a n
    → IsPlacing m path mode bytes n
placing_same m a n path mode bytes placing same = record {
  beside = elim placing.beside [
    | inl old ↦ inl (same path ∙ old)
    | inr new ↦ inr (subst (λ (o : Option Node). HasBegun mode bytes o) (sym (same path)) new)
  ];
  others = λ q ne. same q ∙ placing.others q ne;
}

torn_is_placing : (m a n : Files) (path : List ℕ) (mode : Mode) (bytes : List ℕ)
    → Makes m path mode a → Same a n ⊎ ((count : ℕ) × Changes a path (longer (take count bytes)) n)
    → IsPlacing m path mode bytes n
torn_is_placing m a n path mode bytes makes torn =
    elim torn [
      | inl same ↦ record {
        beside = inr (record {
          node = new_node mode makes.id;
          is = same path ∙ makes.puts.at;
          regular = refl;
          moded = refl;
          count = 0;
          begun = refl;
        });
        others = λ q ne. same q ∙ makes.puts.others q ne;
      }
      | inr some ↦ record {
        beside = inr (begun m a n path mode bytes some.0 makes some.1);
        others = (made_then_changed m a n path mode (longer (take some.0 bytes)) makes some.1).others;
      }
    ]

-- what the call that makes a file leaves
pub create_is_placing : (m n : Files) (path : List ℕ) (mode : Mode) (bytes : List ℕ) (r : Result Bool Failed)
    → Creates m path mode r n → IsPlacing m path mode bytes n
create_is_placing m n path mode bytes (Ok true) makes = torn_is_placing m n n path mode bytes makes (inl (λ q. refl))
create_is_placing m n path mode bytes (Ok false) same = record { beside = inl (same.0 path); others = λ q _. same.0 q }
create_is_placing m n path mode bytes (Err e) same = record { beside = inl (same path); others = λ q _. same q }

-- what the call leaves that takes away a file of which not all was written
pub torn_removal_is_placing : (m a b n : Files) (path : List ℕ) (mode : Mode) (bytes : List ℕ) (r : Result (Unit {0}) Failed)
    → Makes m path mode a → Same a b ⊎ ((count : ℕ) × Changes a path (longer (take count bytes)) b)
    → Removes b path r n → IsPlacing m path mode bytes n
torn_removal_is_placing m a b n path mode bytes (Ok u) makes torn puts = record {
  beside = inl (puts.at ∙ sym makes.free);
  others = λ q ne. puts.others q ne ∙ (torn_is_placing m a b path mode bytes makes torn).others q ne;
}
torn_removal_is_placing m a b n path mode bytes (Err e) makes torn same =
    placing_same m b n path mode bytes (torn_is_placing m a b path mode bytes makes torn) same

-- what is left then
pub torn_removal_places : (m a b n : Files) (path : List ℕ) (mode : Mode) (bytes : List ℕ) (w : WriteError)
    → Makes m path mode a → Same a b ⊎ ((count : ℕ) × Changes a path (longer (take count bytes)) b)
    → TakesAway b path w n → Places m path mode bytes (Err w) n
torn_removal_places m a b n path mode bytes NothingLeft makes torn puts =
    λ q. at_each m n path q (puts.at ∙ sym makes.free) (λ ne. puts.others q ne ∙ (torn_is_placing m a b path mode bytes makes torn).others q ne)
torn_removal_places m a b n path mode bytes Left makes torn same =
    placing_same m b n path mode bytes (torn_is_placing m a b path mode bytes makes torn) same
torn_removal_places m a b n path mode bytes NotRegular makes torn never = absurd never
torn_removal_places m a b n path mode bytes Taken makes torn never = absurd never

pub filling_is_placing : (m a n : Files) (path : List ℕ) (mode : Mode) (bytes : List ℕ)
    → Makes m path mode a → IsFilling a path bytes n → IsPlacing m path mode bytes n
filling_is_placing m a n path mode bytes makes filling =
    elim filling [
      | inl changes ↦
          let placed = whole m a n path mode bytes makes changes in
          record { beside = inr (whole_is_begun mode bytes (n path) placed.whole); others = placed.others }
      | inr some ↦ torn_is_placing m a n path mode bytes makes some
    ]

pub placing_is_writing : (m a n : Files) (path part bytes : List ℕ) (mode : Mode) → (part ≡ path → ⊥) → Same m a
    → mode ≡ mode_of (m path) → IsPlacing a part mode bytes n → IsWriting m path part bytes n
placing_is_writing m a n path part bytes mode apart same is placing = record {
  at = inl (placing.others path (λ e. apart (sym e)) ∙ same path);
  beside = elim placing.beside [
    | inl old ↦ inl (old ∙ same part)
    | inr new ↦ inr (subst (λ (k : Mode). HasBegun k bytes (n part)) is new)
  ];
  others = λ q _ ne. placing.others q ne ∙ same q;
}

-- what stands at a path has the mode and the bytes of what stood at another
moved_whole : (b n : Files) (path part bytes : List ℕ) (mode : Mode) → HasWhole mode bytes (b part) → Moves b part path n
    → HasWhole mode bytes (n path)
moved_whole b n path part bytes mode whole moves =
    subst (λ (o : Option Node). HasWhole mode bytes o) (moves.was ∙ sym moves.at) whole

placed_is_placing : (a b n : Files) (part : List ℕ) (mode : Mode) (bytes : List ℕ) → IsPlaced a part mode bytes b → Same b n
    → IsPlacing a part mode bytes n
placed_is_placing a b n part mode bytes placed same = record {
  beside = inr (subst (λ (o : Option Node). HasBegun mode bytes o) (sym (same part)) (whole_is_begun mode bytes (b part) placed.whole));
  others = λ q ne. same q ∙ placed.others q ne;
}

pub rename_is_writing : (m a b n : Files) (path part bytes : List ℕ) (mode : Mode) (r : Result (Unit {0}) Failed)
    → (part ≡ path → ⊥) → Same m a
    → mode ≡ mode_of (m path) → IsPlaced a part mode bytes b → Renames b part path r n → IsWriting m path part bytes n
rename_is_writing m a b n path part bytes mode (Ok u) apart same is placed moves = record {
  at = inr (subst (λ (k : Mode). HasWhole k bytes (n path)) is (moved_whole b n path part bytes mode placed.whole moves));
  beside = inl (moves.gone ∙ sym placed.free ∙ same part);
  others = λ q ne other. moves.others q other ne ∙ placed.others q other ∙ same q;
}
rename_is_writing m a b n path part bytes mode (Err e) apart same is placed stays =
    placing_is_writing m a n path part bytes mode apart same is (placed_is_placing a b n part mode bytes placed stays)

-- a placed file that is taken away again
taken_away : (a b n : Files) (part : List ℕ) (mode : Mode) (bytes : List ℕ) → IsPlaced a part mode bytes b → Puts b part None n → Same a n
taken_away a b n part mode bytes placed puts q =
    at_each a n part q (puts.at ∙ sym placed.free) (λ ne. puts.others q ne ∙ placed.others q ne)

pub removal_is_writing : (m a b d n : Files) (path part bytes : List ℕ) (mode : Mode) (r : Result (Unit {0}) Failed)
    → (part ≡ path → ⊥) → Same m a
    → mode ≡ mode_of (m path) → IsPlaced a part mode bytes b → Same b d → Removes d part r n → IsWriting m path part bytes n
removal_is_writing m a b d n path part bytes mode (Ok u) apart same is placed stays puts =
    let back : Same a n = taken_away a b n part mode bytes placed
    (record { at = puts.at; others = λ q ne. puts.others q ne ∙ stays q }) in
    placing_is_writing m a n path part bytes mode apart same is
    (record { beside = inl (back part); others = λ q ne. back q })
removal_is_writing m a b d n path part bytes mode (Err e) apart same is placed stays again =
    placing_is_writing m a n path part bytes mode apart same is
    (placed_is_placing a b n part mode bytes placed (λ q. again q ∙ stays q))

pub removal_writes : (m a b d n : Files) (path part bytes : List ℕ) (mode : Mode) (w : WriteError)
    → Same m a → mode ≡ mode_of (m path)
    → IsPlaced a part mode bytes b → Same b d → TakesAway d part w n → Writes {A = Written} m path part bytes (Err w) n
removal_writes m a b d n path part bytes mode NothingLeft same is placed stays puts = λ q.
    taken_away a b n part mode bytes placed
    (record { at = puts.at; others = λ p ne. puts.others p ne ∙ stays p }) q ∙ same q
removal_writes m a b d n path part bytes mode Left same is placed stays again =
    let placing = placed_is_placing a b n part mode bytes placed (λ q. again q ∙ stays q) in
    let here = subst (λ (k : Mode). IsPlacing a part k bytes n) is placing in
    record {
      beside = elim here.beside [ inl old ↦ inl (old ∙ same part) | inr new ↦ inr new ];
      others = λ q ne. here.others q ne ∙ same q;
    }
removal_writes m a b d n path part bytes mode NotRegular same is placed stays never = absurd never
removal_writes m a b d n path part bytes mode Taken same is placed stays never = absurd never

placing_is_making : (m n : Files) (path part : List ℕ) (mode : Mode) (bytes : List ℕ) → (part ≡ path → ⊥)
    → IsPlacing m part mode bytes n → IsMaking m path part mode bytes n
placing_is_making m n path part mode bytes apart placing = record {
  at = inl (placing.others path (λ e. apart (sym e)));
  beside = placing.beside;
  others = λ q _ ne. placing.others q ne;
}

-- what is left where the file wasn't placed
pub placing_makes : (m n : Files) (path part : List ℕ) (mode : Mode) (bytes : List ℕ) (w : WriteError) → (part ≡ path → ⊥)
    → Places m part mode bytes (Err w) n → MakesNew {A = Unit {0}} m path part mode bytes (Err w) n
placing_makes m n path part mode bytes NothingLeft apart same = same
placing_makes m n path part mode bytes Left apart placing = placing_is_making m n path part mode bytes apart placing
placing_makes m n path part mode bytes Taken apart stays = (stays.0, inl stays.1)
placing_makes m n path part mode bytes NotRegular apart never = absurd never

pub same_is_making : (m b n : Files) (path part : List ℕ) (mode : Mode) (bytes : List ℕ) → (part ≡ path → ⊥)
    → IsPlaced m part mode bytes b → Same b n → IsMaking m path part mode bytes n
same_is_making m b n path part mode bytes apart placed same =
    placing_is_making m n path part mode bytes apart (placed_is_placing m b n part mode bytes placed same)

-- what a link of a placed file makes
linked_whole : (m b n : Files) (path part : List ℕ) (mode : Mode) (bytes : List ℕ)
    → IsPlaced m part mode bytes b → Names b part path n → HasWhole mode bytes (n path)
linked_whole m b n path part mode bytes placed names =
    subst (λ (o : Option Node). HasWhole mode bytes o) (names.was ∙ sym names.puts.at) placed.whole

linked_free : (m b n : Files) (path part : List ℕ) (mode : Mode) (bytes : List ℕ) → (part ≡ path → ⊥)
    → IsPlaced m part mode bytes b → Names b part path n → m path ≡ None
linked_free m b n path part mode bytes apart placed names = sym (placed.others path (λ e. apart (sym e))) ∙ names.free

pub link_is_making : (m b n : Files) (path part : List ℕ) (mode : Mode) (bytes : List ℕ) (r : Result Bool Failed) → (part ≡ path → ⊥)
    → IsPlaced m part mode bytes b → Links b part path r n → IsMaking m path part mode bytes n
link_is_making m b n path part mode bytes (Ok true) apart placed names = record {
  at = inr (linked_free m b n path part mode bytes apart placed names, linked_whole m b n path part mode bytes placed names);
  beside = inr (subst (λ (o : Option Node). HasBegun mode bytes o) (sym (names.puts.others part apart))
      (whole_is_begun mode bytes (b part) placed.whole));
  others = λ q ne other. names.puts.others q ne ∙ placed.others q other;
}
link_is_making m b n path part mode bytes (Ok false) apart placed stays = same_is_making m b n path part mode bytes apart placed stays.0
link_is_making m b n path part mode bytes (Err e) apart placed stays = same_is_making m b n path part mode bytes apart placed stays

-- the other name of a linked file is taken away
pub unlinked_is_made : (m b c n : Files) (path part : List ℕ) (mode : Mode) (bytes : List ℕ) → (part ≡ path → ⊥)
    → IsPlaced m part mode bytes b → Names b part path c → Puts c part None n → IsMade m path part mode bytes n
unlinked_is_made m b c n path part mode bytes apart placed names puts = record {
  free = linked_free m b c path part mode bytes apart placed names;
  none_beside = placed.free;
  whole = subst (λ (o : Option Node). HasWhole mode bytes o) (sym (puts.others path (λ e. apart (sym e))))
      (linked_whole m b c path part mode bytes placed names);
  others = λ q ne. at_each m n part q (puts.at ∙ sym placed.free)
      (λ other. puts.others q other ∙ names.puts.others q ne ∙ placed.others q other);
}

pub made_is_making : (m n : Files) (path part : List ℕ) (mode : Mode) (bytes : List ℕ) → (part ≡ path → ⊥)
    → IsMade m path part mode bytes n → IsMaking m path part mode bytes n
made_is_making m n path part mode bytes apart made = record {
  at = inr (made.free, made.whole);
  beside = inl (made.others part apart);
  others = λ q ne _. made.others q ne;
}

pub untouched_is_making : (m n : Files) (path part : List ℕ) (mode : Mode) (bytes : List ℕ) → Same m n → IsMaking m path part mode bytes n
untouched_is_making m n path part mode bytes same =
    record { at = inl (same path); beside = inl (same part); others = λ q _ _. same q }

pub making_same : (m a n : Files) (path part : List ℕ) (mode : Mode) (bytes : List ℕ)
    → IsMaking m path part mode bytes a → Same a n → IsMaking m path part mode bytes n
making_same m a n path part mode bytes making same = record {
  at = elim making.at [
    | inl old ↦ inl (same path ∙ old)
    | inr new ↦ inr (new.0, subst (λ (o : Option Node). HasWhole mode bytes o) (sym (same path)) new.1)
  ];
  beside = elim making.beside [
    | inl old ↦ inl (same part ∙ old)
    | inr new ↦ inr (subst (λ (o : Option Node). HasBegun mode bytes o) (sym (same part)) new)
  ];
  others = λ q ne other. same q ∙ making.others q ne other;
}

pub unlink_is_making : (m b c n : Files) (path part : List ℕ) (mode : Mode) (bytes : List ℕ) (r : Result (Unit {0}) Failed)
    → (part ≡ path → ⊥) → IsPlaced m part mode bytes b → Names b part path c → Removes c part r n
    → IsMaking m path part mode bytes n
unlink_is_making m b c n path part mode bytes (Ok u) apart placed names puts =
    made_is_making m n path part mode bytes apart (unlinked_is_made m b c n path part mode bytes apart placed names puts)
unlink_is_making m b c n path part mode bytes (Err e) apart placed names stays =
    making_same m c n path part mode bytes (link_is_making m b c path part mode bytes (Ok true) apart placed names) stays

pub removed : (m b c n : Files) (part : List ℕ) (mode : Mode) (bytes : List ℕ)
    → IsPlaced m part mode bytes b → Same b c → Puts c part None n → Same m n
removed m b c n part mode bytes placed same puts =
    taken_away m b n part mode bytes placed (record { at = puts.at; others = λ q ne. puts.others q ne ∙ same q })

-- a placed file that is taken away, which was not linked
pub removal_is_making : (m b c n : Files) (path part : List ℕ) (mode : Mode) (bytes : List ℕ) (r : Result (Unit {0}) Failed)
    → (part ≡ path → ⊥) → IsPlaced m part mode bytes b → Same b c → Removes c part r n
    → IsMaking m path part mode bytes n
removal_is_making m b c n path part mode bytes (Ok u) apart placed same puts =
    let back : Same m n = removed m b c n part mode bytes placed same puts in
    placing_is_making m n path part mode bytes apart (record { beside = inl (back part); others = λ q ne. back q })
removal_is_making m b c n path part mode bytes (Err e) apart placed same stays =
    same_is_making m b n path part mode bytes apart placed (λ q. stays q ∙ same q)

pub removal_makes : (m b c n : Files) (path part : List ℕ) (mode : Mode) (bytes : List ℕ) (w : WriteError)
    → (part ≡ path → ⊥) → IsPlaced m part mode bytes b → Same b c → TakesAway c part w n
    → MakesNew {A = Unit {0}} m path part mode bytes (Err w) n
removal_makes m b c n path part mode bytes NothingLeft apart placed same puts = removed m b c n part mode bytes placed same puts
removal_makes m b c n path part mode bytes Left apart placed same stays =
    same_is_making m b n path part mode bytes apart placed (λ q. stays q ∙ same q)
removal_makes m b c n path part mode bytes NotRegular apart placed same never = absurd never
removal_makes m b c n path part mode bytes Taken apart placed same never = absurd never

-- a placed file that is taken away, since something stood at the path
pub not_linked_makes : (m b c n : Files) (path part : List ℕ) (mode : Mode) (bytes : List ℕ)
    → (part ≡ path → ⊥) → IsPlaced m part mode bytes b → Same b c × (b path ≢ None) → Puts c part None n
    → MakesNew {A = Unit {0}} m path part mode bytes (Err Taken) n
not_linked_makes m b c n path part mode bytes apart placed stays puts =
    (removed m b c n part mode bytes placed stays.0 puts, inr (λ none. stays.1 (placed.others path (λ e. apart (sym e)) ∙ none)))

pub not_linked_is_making : (m b c n : Files) (path part : List ℕ) (mode : Mode) (bytes : List ℕ)
    → (part ≡ path → ⊥) → IsPlaced m part mode bytes b → Same b c → Same c n
    → IsMaking m path part mode bytes n
not_linked_is_making m b c n path part mode bytes apart placed same stays =
    same_is_making m b n path part mode bytes apart placed (λ q. stays q ∙ same q)

-- a placed file that took the path, where nothing else is changed afterwards
pub renamed_is_written : (m a b c n : Files) (path part bytes : List ℕ) (mode : Mode) → (part ≡ path → ⊥) → Same m a
    → mode ≡ mode_of (m path) → IsWritable (m path) → IsPlaced a part mode bytes b → Moves b part path c → Same c n
    → IsWritten m path part bytes n
renamed_is_written m a b c n path part bytes mode apart same is writable placed moves stays = record {
  writable = writable;
  whole = subst (λ (k : Mode). HasWhole k bytes (n path)) is
      (subst (λ (o : Option Node). HasWhole mode bytes o) (sym (stays path)) (moved_whole b c path part bytes mode placed.whole moves));
  free = sym (same part) ∙ placed.free;
  others = λ q ne. at_each m n part q (stays part ∙ moves.gone ∙ sym placed.free ∙ same part)
      (λ other. stays q ∙ moves.others q other ne ∙ placed.others q other ∙ same q);
}

-- what is made stays where nothing else is changed
pub made_same : (m a n : Files) (path part : List ℕ) (mode : Mode) (bytes : List ℕ) → IsMade m path part mode bytes a → Same a n
    → IsMade m path part mode bytes n
made_same m a n path part mode bytes made same = record {
  free = made.free;
  none_beside = made.none_beside;
  whole = subst (λ (o : Option Node). HasWhole mode bytes o) (sym (same path)) made.whole;
  others = λ q ne. same q ∙ made.others q ne;
}

-- whatever is left where the file wasn't made is what it is at some moment
pub error_is_making : (m n : Files) (path part : List ℕ) (mode : Mode) (bytes : List ℕ) (w : WriteError)
    → MakesNew {A = Unit {0}} m path part mode bytes (Err w) n → IsMaking m path part mode bytes n
error_is_making m n path part mode bytes NothingLeft same = untouched_is_making m n path part mode bytes same
error_is_making m n path part mode bytes Left making = making
error_is_making m n path part mode bytes Taken stays = untouched_is_making m n path part mode bytes stays.0
error_is_making m n path part mode bytes NotRegular never = absurd never
