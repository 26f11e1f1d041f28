use Rattle.std.proofs.Common.{Bor, List, ℕ, ◌≡◌, ◌∙◌, refl, sym, rules, arith, inl, inr, true, map}
use Rattle.std.proofs.Common.{Some, ◌∷◌, []}
use Rattle.std.specs.Result.{is_ok}
use Rattle.std.proofs.lemmas.List.{map-append}
use Rattle.std.proofs.lemmas.List.Elements.{All-push}
use Rattle.csv.specs.Reading.{Reached, default_config, strip_bom}
use Rattle.csv.specs.Records.{AllText, fields_of}
use Rattle.csv.specs.declared.parser.State.TheVariants.{StartRecord}
use Rattle.csv.proofs.ReadFacts.{rows-more}
use Rattle.dispatch_room_csv.proofs.TableLemmas.{fault_explained, width_more}
use Rattle.dispatch_room_csv.proofs.csv_records.read_records.Goals as goal

pub loop-record-init : goal.loop-record-init
unfolding Reached
loop-record-init c =
    let made = c.from_reader-reader.ensures in
    let set = c.has_headers.ensures in
    let start = c.into_iter-record-iterator.ensures.into_iter_gives ∙ refl in
    let reader = c.into_records-record-items.ensures.rdr in
    rw (start, reader, c.new-records.ensures.items) (record {
      plain = rw set at made.trim ∙ c.new.ensures.trim;
      ready = inr (inr (rw set at made.has_headers, made.headers));
      left = c.into_records-record-items.ensures.left;
      strict = rw set at made.flexible ∙ c.new.ensures.flexible;
      config = rw set at made.config ∙ c.new.ensures.config;
      width = made.expected;
      texts = λ k d h. absurd (omega arith);
      alike = tt;
      rest = strip_bom c.args.text.now;
      source = made.source;
      reached = (sym made.state, refl);
    })

pub loop-record-preserved : goal.loop-record-preserved
loop-record-preserved c =
    let inv = c.loop-record.invariant in
    let fields = fields_of c.in-Ok.record in
    let rows = map fields_of c.loop-record.records.items in
    let step = rw (c.in-Some.is, c.in-Ok.is) at (c.next.ensures.steps inv.left inv.plain) in
    let read = step.0 inv.ready in
    let good : is_ok c.push.result ≡ true = search rules in
    let items = rw good at c.push.ensures.items in
    let next = read.0.5 refl inv.strict in
    let wider = width_more rows fields c.loop-record.record-iterator.rdr.expected c.next.new.self.rdr.expected inv.width
    next.0 next.1 inv.alike in
    let more = rows-more (λ (s : Bor (List ℕ)). Some s.now) c.loop-record.record-iterator.rdr c.next.new.self.rdr fields
    default_config StartRecord
    (strip_bom c.args.text.now) inv.rest rows inv.config inv.source inv.reached read.0 in
    rw (items, map-append fields_of c.loop-record.records.items (c.in-Ok.record ∷ [])) (record {
      plain = read.0.3 ∙ inv.plain;
      ready = inl read.1;
      left = read.3;
      strict = step.3 ∙ inv.strict;
      config = read.0.2 ∙ inv.config;
      width = wider.0;
      texts = All-push AllText rows fields inv.texts read.2;
      alike = wider.1;
      rest = more.0;
      source = more.1;
      reached = more.2;
    })

pub returns-in-Err-clause-fault : goal.returns-in-Err-clause-fault
returns-in-Err-clause-fault c =
    let inv = c.loop-record.invariant in
    let step = rw (c.in-Some.is, c.in-Err.is) at (c.next.ensures.steps inv.left inv.plain) in
    rw c.fault_of.ensures (fault_explained (λ (s : Bor (List ℕ)). Some s.now) c.loop-record.record-iterator.rdr
    c.next.new.self.rdr c.args.text.now
    inv.rest (map fields_of c.loop-record.records.items) c.in-Err.error.kind inv.config inv.source inv.width inv.reached
    (step.0 inv.ready))
