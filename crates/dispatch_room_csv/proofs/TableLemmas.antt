-- A text of CSV has one list of records, and what was read of it is the beginning of that list.
use Rattle.std.proofs.Common.{◌≡◌, ◌<◌, ℕ, List, [], ◌∷◌, ◌++◌, length, get_or, Option, Some, None}
use Rattle.std.proofs.Common.{IfSome, All, true, refl, sym, ap, ◌∙◌, arith}
use Rattle.std.proofs.Math.Seq.{get_or-append_seam}
use Rattle.std.proofs.lemmas.List.{length-append}
use Rattle.std.proofs.lemmas.List.Elements.{All-push}
use Rattle.csv.specs.Machine.{Read, next_record}
use Rattle.csv.specs.Reading.{ExplainsRead, NextIs, Reached, ReadsNext, default_config, pending_of}
use Rattle.csv.specs.Reading.{source_of, strip_bom}
use Rattle.csv.specs.Records.{AllText}
use Rattle.csv.specs.declared.error.ErrorKind.{ErrorKind}
use Rattle.csv.specs.declared.error.ErrorKind.TheVariants as kind
use Rattle.csv.specs.declared.parser.Config.{Config}
use Rattle.csv.specs.declared.parser.State.{State}
use Rattle.csv.specs.declared.parser.State.TheVariants.{StartRecord}
use Rattle.csv.specs.declared.reader.Reader.{Reader}
use Rattle.dispatch_room_csv.specs.Records.{AreAlike, ExplainsRecords, ExplainsRows, Fields}
use Rattle.dispatch_room_csv.specs.Records.{HasRows, IsTable, records_fault}
use Rattle.dispatch_room_csv.specs.declared.csv_records.RecordsFault.{RecordsFault}
use Rattle.dispatch_room_csv.specs.declared.csv_records.RecordsFault.TheVariants.{Input, Memory}

-- where one more record can be read, it comes next in every list of all records
pub comes_next : (cfg : Config) (s s2 s3 : State) (xs ys zs : List ℕ) (rows all : List Fields)
    (p : Read)
    → Reached cfg s xs rows s2 ys → next_record cfg s2 [] [] ys ≡ Some p
    → Reached cfg s xs all s3 zs → next_record cfg s3 [] [] zs ≡ None
    → (more : List Fields) × (all ≡ rows ++ p.0 ∷ more)
unfolding Reached
comes_next cfg s s2 s3 xs ys zs [] [] p here next there ends =
    absurd (cc (here.0, here.1, there.0, there.1, next, ends))
comes_next cfg s s2 s3 xs ys zs [] (r ∷ rs) p here next there ends =
    (rs, cc (here.0, here.1, next, there.1, there.2))
comes_next cfg s s2 s3 xs ys zs (w ∷ ws) [] p here next there ends =
    absurd (cc (here.1, there.0, there.1, ends))
comes_next cfg s s2 s3 xs ys zs (w ∷ ws) (r ∷ rs) p here next there ends =
    let same : there.0 ≡ here.0 = cc (here.1, there.1) in
    let rest = comes_next cfg here.0.1 s2 s3 here.0.2 ys zs ws rs p here.3 next (rw same at there.3) ends in
    (rest.0, cc (here.2, there.2, same, rest.1))

-- a text has one list of all records
pub one_list : (cfg : Config) (s s2 s3 : State) (xs ys zs : List ℕ) (rows all : List Fields)
    → Reached cfg s xs rows s2 ys → next_record cfg s2 [] [] ys ≡ None
    → Reached cfg s xs all s3 zs → next_record cfg s3 [] [] zs ≡ None
    → all ≡ rows
unfolding Reached
one_list cfg s s2 s3 xs ys zs [] [] here done there ends = refl
one_list cfg s s2 s3 xs ys zs [] (r ∷ rs) here done there ends =
    absurd (cc (here.0, here.1, done, there.1))
one_list cfg s s2 s3 xs ys zs (w ∷ ws) [] here done there ends =
    absurd (cc (here.1, there.0, there.1, ends))
one_list cfg s s2 s3 xs ys zs (w ∷ ws) (r ∷ rs) here done there ends =
    let same : there.0 ≡ here.0 = cc (here.1, there.1) in
    let rest = one_list cfg here.0.1 s2 s3 here.0.2 ys zs ws rs here.3 done (rw same at there.3) ends in
    cc (here.2, there.2, same, rest)

-- a text is one table
pub one_table : (text : List ℕ) (rows all : List Fields) → IsTable text rows → IsTable text all
    → all ≡ rows
one_table text rows all here there =
    one_list default_config StartRecord here.read.0 there.read.0 (strip_bom text) here.read.1 there.read.1 rows all
    here.read.2 here.read.3 there.read.2 there.read.3

-- how many fields the first record has
abbrev pub width_of : List Fields → Option ℕ
width_of [] = None
width_of (first ∷ others) = Some (length first)

-- each record of a table is text
text_next : (rows more : List Fields) (fields : Fields) → All AllText (rows ++ fields ∷ more)
    → AllText fields
text_next rows more fields all =
    let within : length rows < length (rows ++ fields ∷ more) = omega (arith, length-append rows (fields ∷ more)) in
    rw (get_or-append_seam rows fields more fields) at (all (length rows) fields within)

-- each record of a table is as wide as the first
width_next : (rows more : List Fields) (fields : Fields) (width : ℕ)
    → width_of rows ≡ Some width → AreAlike (rows ++ fields ∷ more) → length fields ≡ width
width_next [] more fields width known alike = absurd (cc (known))
width_next (first ∷ others) more fields width known alike =
    let within : length others
    < length (others ++ fields ∷ more) = omega (arith, length-append others (fields ∷ more)) in
    let same = rw (get_or-append_seam others fields more fields) at (alike (length others) fields within) in
    cc (known, same)

-- one more record of the width that is expected
pub width_more : (rows : List Fields) (fields : Fields) (old new : Option ℕ) → old ≡ width_of rows
    → IfSome old (λ width. new ≡ Some width)
    → new ≡ Some (length fields) → AreAlike rows
    → (new ≡ width_of (rows ++ fields ∷ [])) × AreAlike (rows ++ fields ∷ [])
width_more [] fields old new known kept next alike = (next, λ k d h. absurd (omega arith))
width_more (first ∷ others) fields old new known kept next alike =
    let stays : new ≡ Some (length first) = rw known at kept in
    (stays, All-push (λ other. length other ≡ length first) others fields alike (cc (stays, next)))

-- a read that took a record
took : (o : Option Read) (fields : Fields) (s : State) (rest : List ℕ)
    → NextIs o true fields s rest → (p : Read) × (o ≡ Some p) × (fields ≡ p.0)
took None fields s rest next = cc (next)
took (Some p) fields s rest next = (p, refl, next.1)

took_record : (s s2 : State) (ys : List ℕ) (after : Option (List ℕ)) (fields : Fields)
    → ReadsNext default_config s (Some ys) after true fields s2
    → (p : Read) × (next_record default_config s [] [] ys ≡ Some p) × (fields ≡ p.0)
took_record s s2 ys None fields reads = absurd reads
took_record s s2 ys (Some zs) fields reads = took _ fields s2 zs reads

-- the record that a failed read took comes next in every table of the text
table_next : (text ys : List ℕ) (rows records : List Fields) (s s2 : State)
    (after : Option (List ℕ)) (fields : Fields)
    → Reached default_config StartRecord (strip_bom text) rows s ys
    → ReadsNext default_config s (Some ys) after true fields s2
    → IsTable text records → (more : List Fields) × (records ≡ rows ++ fields ∷ more)
table_next text ys rows records s s2 after fields reached reads table =
    let next = took_record s s2 ys after fields reads in
    let found = comes_next default_config StartRecord s table.read.0 (strip_bom text) ys table.read.1 rows records
    next.0
    reached next.1 table.read.2 table.read.3 in
    (found.0, found.1 ∙ ap (λ f. rows ++ f ∷ found.0) (sym next.2))

-- a text is refused only where it is no table
pub fault_explained : {R : Type 0} (rem : R → Option (List ℕ)) (a b : Reader R) (text ys : List ℕ)
    (rows : List Fields) (kind : ErrorKind)
    → a.config ≡ default_config → source_of rem a ≡ Some ys → a.expected ≡ width_of rows
    → Reached default_config StartRecord (strip_bom text) rows a.state ys
    → ExplainsRead rem a b true kind
    → ExplainsRecords text (records_fault kind)
fault_explained rem a b text ys rows (kind.Io e) config source width reached why = tt
fault_explained rem a b text ys rows kind.OutOfMemory config source width reached why = tt
fault_explained rem a b text ys rows (kind.Serialize e) config source width reached why = tt
fault_explained rem a b text ys rows (kind.Deserialize pos e) config source width reached why = tt
fault_explained rem a b text ys rows (kind.UnequalLengths pos expected len) config source width reached why =
    λ records table.
    let next = table_next text ys rows records a.state b.state (pending_of (rem b.rdr) b) why.3 reached
    (rw (config, source) at why.4) table in
    let same = width_next rows next.0 why.3 expected (sym width ∙ why.1) (rw next.1 at table.alike) in
    why.2 (sym same ∙ why.5)
fault_explained rem a b text ys rows (kind.Utf8 pos e) config source width reached why =
    λ records table.
    let next = table_next text ys rows records a.state b.state (pending_of (rem b.rdr) b) why.1 reached
    (rw (config, source) at why.2) table in
    why.3 (text_next rows next.0 why.1 (rw next.1 at table.texts))

-- a text without records has no rows
pub rows_explained : (header : Fields) (text : List ℕ) (fault : RecordsFault)
    → ExplainsRecords text fault → ExplainsRows header text fault
rows_explained header text Input no_table = λ rows table. no_table (header ∷ rows) table
rows_explained header text Memory no_table = tt

-- the first record of a table with rows under the header is the header
pub headed : (header : Fields) (text : List ℕ) (records rows : List Fields) (d : Fields)
    → IsTable text records → HasRows header text rows
    → (0 < length records) × (get_or records 0 d ≡ header)
headed header text records rows d table under =
    let same = one_table text (header ∷ rows) records under table in
    (omega (arith, ap length same), ap (λ rs. get_or rs 0 d) same)
