-- The laws of the net of a document.
use Rattle.pt_buildable.specs.Laws.{TopsAreThere, EntitiesAreShallow, DirectorsAreOfComposites, TopsHaveIterations, CompositesAreDirected, DirectedNetsAreInOrder, CompositesHaveChannels, ChildrenAreSteady, ChannelsBeginAtOutputs}
use Rattle.pt_buildable.proofs.Depths.{documents-small}
use Rattle.pt_buildable.proofs.Levels.{documents-shallow}
use Rattle.pt_buildable.proofs.Nesting.{nested-few}
use Rattle.pt_buildable.proofs.Tops.{has-top, top-iterates}
use Rattle.pt_buildable.proofs.Composites.{director-composite, all-directed}
use Rattle.pt_buildable.proofs.Ordered.{seen, placed, rooted, ordered}
use Rattle.pt_buildable.proofs.Insides.{channels-counted, sources-there}
use Rattle.pt_buildable.proofs.Few.{few-places, few-sources, few-kids}
use Rattle.pt_buildable.proofs.Kids.{unsteady-network}
use Rattle.pt_buildable.proofs.Outputs as outputs
use Rattle.pt_net.specs.Table.{tables_of}

pub tops-there : TopsAreThere
tops-there net doc = let top = has-top doc.job net (placed net doc) doc.made in (top.entity, top.at)

pub entities-shallow : EntitiesAreShallow
entities-shallow net k depth doc nested = nested-few doc.job net (placed net doc) doc.made 15 (documents-shallow doc.bytes doc.job doc.read) nested

pub directors-of-composites : DirectorsAreOfComposites
directors-of-composites net k e d doc at has = director-composite doc.job net (seen net doc) (placed net doc) doc.made k e d at has

pub tops-iterate : TopsHaveIterations
tops-iterate net values e doc valued at built = top-iterates net values e doc valued at built

pub composites-directed : CompositesAreDirected
composites-directed net e d doc at has = all-directed doc.job net (seen net doc) (placed net doc) doc.made (rooted net doc) e d at has

pub nets-ordered : DirectedNetsAreInOrder
nets-ordered net e d doc opaque at has = ordered net doc (composites-directed net e d doc at has) opaque e d at has

pub composites-channels : CompositesHaveChannels
composites-channels net starts k e d doc order at has = record {
  counted = channels-counted net starts k e d order.wired at has;
  there = sources-there net starts k e at order.wired;
  few = few-sources doc.job net starts k e doc.made (few-places (tables_of doc.job) doc.job.records doc.few);
  fewer = few-kids doc.job net starts k e doc.made (documents-small doc.bytes doc.job doc.read);
}

pub children-steady : ChildrenAreSteady
children-steady net values typing starts k e kids valued misplaced started at sdf all unsteady = unsteady-network net values typing starts valued misplaced started k e kids at sdf all unsteady

pub begin-at-outputs : ChannelsBeginAtOutputs
begin-at-outputs net values typing starts k e kids order started at trees = outputs.begin-at-outputs net values typing starts order.class_ports started k e at kids trees order.wired
