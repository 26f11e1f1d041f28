-- What a tree stands for: only one list, and after an edit what the edit makes of that list.
use Rattle.std.proofs.Common.{◌≡◌, ℕ, ℤ, List, [], ◌∷◌, map, filter, Bool, true, false, not, sym}
use Rattle.std.proofs.Common.{ap, subst, ◌∙◌, Ordering, is_eq, IsPermutation}
use Rattle.std.specs.Cmp.{IsTotalOrder}
use Rattle.std.proofs.lemmas.Cmp.{tied_back}
use Rattle.std.proofs.lemmas.List.Sorted.{IsPermutation-refl, IsPermutation-trans}
use Rattle.std.proofs.lemmas.List.Sorted.{IsPermutation-sym, IsPermutation-map, IsPermutation-cons}
use Rattle.sqlite_value.specs.Order.{Row}
use Rattle.sqlite_trees.specs.Tree.{rowid, put_row}
use Rattle.sqlite_trees.specs.View.{is_int}
use Rattle.sqlite_trees.proofs.ListLemmas.{filter-map, IsPermutation-filter}
use Rattle.sqlite_sql.specs.Query.{key_cmp}
use Rattle.sqlite_sql.proofs.QueryLemmas.{key_cmp_total}
use Rattle.sqlite_rules.specs.Lists.{Has}
use Rattle.sqlite_rules.specs.Edit.{id_in, without_all, is_taken}
use Rattle.room_tables_schema.specs.TableTrees.{cells, keys, Holds, put_in, drop_from}
use Rattle.room_tables_schema.proofs.Comparisons.{is_Equal}
use Rattle.room_tables_schema.proofs.Rising.{unique, has_permuted, distinct_in, one_image}
use Rattle.room_tables_schema.proofs.Rising.{rises-put_in, rises-filter, put_in_has}
use Rattle.room_tables_schema.proofs.Numbered.{put_row_has, numbered-put_row, numbered-filter}
use Rattle.room_tables_schema.proofs.Numbered.{without_all-passing}

module _ (places key : List ℕ) where
  abbrev cmp : Row → Row → Ordering
  cmp = key_cmp 0 (keys key)

  total : IsTotalOrder cmp
  total = key_cmp_total (keys key) 0

  -- a tree with no rows stands for none
  pub holds_none : (tree : List Row) → tree ≡ [] → Holds places key tree []
  holds_none tree empty =
      subst (λ t. Holds places key t []) (sym empty)
      (record { numbered = (tt, tt); same = IsPermutation-refl []; rises = tt })

  -- a tree that was not written stands for what it stood for
  pub holds_still : (old new rows : List Row) → new ≡ old → Holds places key old rows
      → Holds places key new rows
  holds_still old new rows same h = subst (λ tree. Holds places key tree rows) (sym same) h

  -- a tree stands for only one list
  pub holds_one : (tree xs ys : List Row) → Holds places key tree xs → Holds places key tree ys
      → xs ≡ ys
  holds_one tree xs ys h k =
      let same : IsPermutation xs ys = IsPermutation-trans _ _ _ (IsPermutation-sym _ _ h.same) k.same in
      unique cmp total xs ys h.rises k.rises (λ z. has_permuted ys xs z (IsPermutation-sym _ _ same))
      (λ z. has_permuted xs ys z same)

  -- two rows of the tree with one key are one
  pub one_key : (tree rows : List Row) (a b : Row) → Holds places key tree rows → Has tree a
      → Has tree b → is_eq (cmp (cells places a) (cells places b)) ≡ true → a ≡ b
  one_key tree rows a b h =
      one_image cmp total (cells places) tree a b
      (distinct_in cmp total rows (map (cells places) tree) (IsPermutation-sym _ _ h.same) h.rises)

  -- so are two with the key of a row
  pub one_tied : (tree rows : List Row) (test : Row → Bool) (x a b : Row)
      → Holds places key tree rows → ((r : Row) → test r ≡ is_eq (cmp (cells places r) x))
      → Has tree a → Has tree b → test a ≡ true → test b ≡ true → a ≡ b
  one_tied tree rows test x a b h agrees p q s t =
      let tie = λ (r : Row) (e : test r ≡ true). is_Equal _ (sym (agrees r) ∙ e) in
      one_key tree rows a b h p q
      (ap is_eq (total.congr _ _ (cells places b) (tie a s) ∙ tied_back total _ _ (tie b t)))

  -- the rows that pass are deleted
  pub holds-without_all : (tree next rows : List Row) (test shows : Row → Bool) (ids : List ℤ)
      → Holds places key tree rows
      → ((r : Row) → test r ≡ shows (cells places r))
      → ((r : Row) → Has tree r → test r ≡ true → Has ids (id_in (rowid r)))
      → ((id : ℤ) → Has ids id → (r : Row) × Has tree r × (test r ≡ true) × (id ≡ id_in (rowid r)))
      → next ≡ without_all tree ids → Holds places key next (filter (λ x. not (shows x)) rows)
  holds-without_all tree next rows test shows ids h agrees complete sound is =
      let left : next
      ≡ filter (λ r. not (test r)) tree = is ∙ without_all-passing tree test ids h.numbered complete sound in
      let image : map (cells places) (filter (λ r. not (test r)) tree)
      ≡ filter (λ x. not (shows x)) (map (cells places) tree) =
      (λ i. map (cells places) (filter (λ r. not (agrees r i)) tree))
      ∙ sym (filter-map (λ x. not (shows x)) (cells places) tree) in
      record {
        numbered = rw left (numbered-filter (λ r. not (test r)) tree h.numbered);
        same = rw left (rw image (IsPermutation-filter (λ x. not (shows x)) _ _ h.same));
        rises = rises-filter cmp total (λ x. not (shows x)) rows h.rises;
      }

  -- a row comes in, where those with its key are out
  pub holds-put_row : (tree next rows : List Row) (new x : Row) (test : Row → Bool)
      → Holds places key tree rows
      → ((r : Row) → test r ≡ is_eq (cmp (cells places r) x))
      → is_int (rowid new) ≡ true → is_taken (filter (λ r. not (test r)) tree) new ≡ false
      → cells places new ≡ x
      → next ≡ put_row new (filter (λ r. not (test r)) tree)
      → Holds places key next (put_in cmp x rows)
  holds-put_row tree next rows new x test h agrees int free shown is =
      let rest = filter (λ r. not (test r)) tree in
      let others : IsPermutation (map (cells places) rest) (drop_from cmp x rows) =
      rw ((λ i. map (cells places) (filter (λ r. not (agrees r i)) tree))
      ∙ sym (filter-map (λ y. not (is_eq (cmp y x))) (cells places) tree))
      (IsPermutation-filter (λ y. not (is_eq (cmp y x))) _ _ h.same) in
      let all : IsPermutation (map (cells places) (new ∷ rest)) (x ∷ drop_from cmp x rows) = rw (← shown)
      (IsPermutation-cons (cells places new) _ _ (rw shown others)) in
      record {
        numbered = rw is (numbered-put_row new rest int free (numbered-filter (λ r. not (test r)) tree h.numbered));
        same =
            rw is (IsPermutation-trans _ _ _
            (IsPermutation-sym _ _ (IsPermutation-map (cells places) _ _ (put_row_has new rest free)))
            (IsPermutation-trans _ _ _ all (put_in_has cmp total x rows h.rises)));
        rises = rises-put_in cmp total x rows h.rises;
      }
